use Rattle.std.proofs.Common.{map, refl, ap, sym, ◌∙◌}
use Rattle.std.specs.List.{flat_map}
use Rattle.pil_syntax.specs.Shown.{term}
use Rattle.pil_syntax.specs.Tree.{Term}
use Rattle.pil_names.specs.Wrongs.{stray, references}
use Rattle.pil_names.specs.Shown.{outlined}
use Rattle.pil_names.specs.Least.{least}
use Rattle.pil_names.proofs.Passing.{flat_step, flat_end, flat_flat}
use Rattle.pil_names.proofs.mixed.stray_in_exprs.Goals as goal

pub loop-expr-preserved : goal.loop-expr-preserved
loop-expr-preserved c =
    flat_step (λ x. flat_map (stray (outlined c.args.outline.now) c.args.home c.args.wanted) (references (term x))) c.args.exprs.now c.args.exprs.now c.loop-expr.expr-index c.expr-item.result c.loop-expr.found c.stray_in_expr-here.result c.lesser-found.result refl c.loop-expr-test.true c.expr-item.is c.loop-expr.invariant c.stray_in_expr-here.ensures c.lesser-found.ensures

pub returns : goal.returns
returns c =
    flat_end (λ (y : Term). flat_map (stray (outlined c.args.outline.now) c.args.home c.args.wanted) (references y)) term c.args.exprs.now c.args.exprs.now c.loop-expr.expr-index c.loop-expr.found refl c.loop-expr-test.false c.loop-expr.invariant
    ∙ sym (ap least (flat_flat (stray (outlined c.args.outline.now) c.args.home c.args.wanted) references (map term c.args.exprs.now)))
