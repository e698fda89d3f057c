use Rattle.std.proofs.Common.{ℕ, ◌<◌, get_or, map, sym, subst, below_more}
use Rattle.pil_ast.specs.Tree.{term}
use Rattle.pil_program.specs.Publics.{NoPublic}
use Rattle.pil_program.proofs.Unnamed.{map-read}
use Rattle.pil_program.proofs.publics.none_in_exprs.Goals as goal

pub loop-expr-preserved : goal.loop-expr-preserved
loop-expr-preserved c = λ k d. below_more (λ j. NoPublic (get_or (map term c.args.exprs.now) j d)) c.loop-expr.expr-index (λ j l. c.loop-expr.invariant j d l)
    (subst NoPublic (sym (map-read term c.args.exprs.now c.loop-expr.expr-index c.expr-item.result d c.loop-expr-test.true c.expr-item.is)) (c.none_in.ensures c.if-not-none_in.false)) k
