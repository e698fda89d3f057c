use Rattle.std.proofs.Common.{sym, ap, subst, ◌∙◌}
use Rattle.pil_ast.specs.Tree.{term, namespaces}
use Rattle.pil_ast.specs.Sound.{IsTerm}
use Rattle.pil_ast.specs.Value.{value_in}
use Rattle.pil_laws.proofs.Loops.{values-more, mapped-at}
use Rattle.bus_check.proofs.rows.tuple_at.Goals as goal

pub eval-requires-clause-term : goal.eval-requires-clause-term
eval-requires-clause-term g c =
    subst (λ s. IsTerm (namespaces c.args.pil.now) s (term c.expr-item.result)) (sym c.requires.filled.space)
    (mapped-at term (IsTerm (namespaces c.args.pil.now) c.args.space) c.args.exprs.now c.loop-expr.expr-index c.expr-item.result c.loop-expr-test.true c.expr-item.is c.requires.terms)

pub loop-expr-preserved : goal.loop-expr-preserved
loop-expr-preserved g c =
    values-more term c.args.exprs.now c.loop-expr.expr-index c.expr-item.result c.loop-expr-test.true c.expr-item.is
    (value_in (namespaces c.args.pil.now) (g.C.Columns.values c.args.columns.now) c.args.space c.args.instance c.args.row)
    c.loop-expr.values.items c.push.new.self.items c.value.result c.loop-expr.invariant
    (c.value.ensures.same ∙ c.eval.ensures.value ∙ ap (λ s. value_in (namespaces c.args.pil.now) (g.C.Columns.values c.args.columns.now) s c.args.instance c.args.row (term c.expr-item.result)) c.requires.filled.space)
    c.in_ok-push.ensures.items
