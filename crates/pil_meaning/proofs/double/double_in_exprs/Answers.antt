use Rattle.std.proofs.Common.{refl}
use Rattle.pil_syntax.specs.Shown.{term}
use Rattle.pil_meaning.specs.Marks.{double_in_term}
use Rattle.pil_names.specs.Shown.{outlined}
use Rattle.pil_meaning.proofs.Passing.{flat_step, flat_end}
use Rattle.pil_meaning.proofs.double.double_in_exprs.Goals as goal

pub loop-expr-preserved : goal.loop-expr-preserved
loop-expr-preserved c =
    flat_step (λ x. double_in_term (outlined c.args.outline.now) c.args.home (term x)) c.args.exprs.now c.args.exprs.now c.loop-expr.expr-index c.expr-item.result c.loop-expr.found c.double_in_expr-here.result c.lesser-found.result refl c.loop-expr-test.true c.expr-item.is c.loop-expr.invariant c.double_in_expr-here.ensures c.lesser-found.ensures

pub returns : goal.returns
returns c =
    flat_end (double_in_term (outlined c.args.outline.now) c.args.home) term c.args.exprs.now c.args.exprs.now c.loop-expr.expr-index c.loop-expr.found refl c.loop-expr-test.false c.loop-expr.invariant
