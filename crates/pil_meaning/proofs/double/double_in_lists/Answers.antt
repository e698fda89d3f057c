use Rattle.std.proofs.Common.{map, refl, ap, sym, ◌∙◌}
use Rattle.std.specs.List.{flat_map}
use Rattle.pil_syntax.specs.Shown.{tuple}
use Rattle.pil_syntax.specs.Tree.{Tuple}
use Rattle.pil_names.specs.Wrongs.{terms_of_list}
use Rattle.pil_meaning.specs.Marks.{double_in_term}
use Rattle.pil_names.specs.Shown.{outlined}
use Rattle.pil_names.specs.Least.{least}
use Rattle.pil_meaning.proofs.Passing.{flat_step, flat_end, flat_flat}
use Rattle.pil_meaning.proofs.double.double_in_lists.Goals as goal

pub loop-list-preserved : goal.loop-list-preserved
loop-list-preserved c =
    flat_step (λ x. flat_map (double_in_term (outlined c.args.outline.now) c.args.home) (terms_of_list (tuple x))) c.args.lists.now c.args.lists.now c.loop-list.list-index c.list-item.result c.loop-list.found c.double_in_list-here.result c.lesser-found.result refl c.loop-list-test.true c.list-item.is c.loop-list.invariant c.double_in_list-here.ensures c.lesser-found.ensures

pub returns : goal.returns
returns c =
    flat_end (λ (y : Tuple). flat_map (double_in_term (outlined c.args.outline.now) c.args.home) (terms_of_list y)) tuple c.args.lists.now c.args.lists.now c.loop-list.list-index c.loop-list.found refl c.loop-list-test.false c.loop-list.invariant
    ∙ sym (ap least (flat_flat (double_in_term (outlined c.args.outline.now) c.args.home) terms_of_list (map tuple c.args.lists.now)))
