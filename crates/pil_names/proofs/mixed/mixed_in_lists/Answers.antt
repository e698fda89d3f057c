use Rattle.std.proofs.Common.{refl}
use Rattle.pil_syntax.specs.Shown.{tuple}
use Rattle.pil_names.specs.Wrongs.{mixed_in, terms_of_list}
use Rattle.pil_names.specs.Shown.{outlined}
use Rattle.pil_syntax.specs.Tree.{Tuple}
use Rattle.pil_names.proofs.Passing.{flat_step, flat_end}
use Rattle.pil_names.proofs.mixed.mixed_in_lists.Goals as goal

pub loop-list-preserved : goal.loop-list-preserved
loop-list-preserved c =
    flat_step (λ x. (λ (t : Tuple). mixed_in (outlined c.args.outline.now) c.args.home (terms_of_list t)) (tuple x)) c.args.lists.now c.args.lists.now c.loop-list.list-index c.list-item.result c.loop-list.found c.mixed_in_list-here.result c.lesser-found.result refl c.loop-list-test.true c.list-item.is c.loop-list.invariant c.mixed_in_list-here.ensures c.lesser-found.ensures

pub returns : goal.returns
returns c =
    flat_end ((λ (t : Tuple). mixed_in (outlined c.args.outline.now) c.args.home (terms_of_list t))) tuple c.args.lists.now c.args.lists.now c.loop-list.list-index c.loop-list.found refl c.loop-list-test.false c.loop-list.invariant
