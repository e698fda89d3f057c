use Rattle.std.proofs.Common.{◌≡◌, take}
use Rattle.std.specs.List.{flat_map}
use Rattle.pil_syntax.specs.Shown.{tuple}
use Rattle.pil_names.specs.Wrongs.{mixed_in, terms_of_list}
use Rattle.pil_names.specs.Shown.{outlined}
use Rattle.pil_syntax.specs.Tree.{Tuple}
use Rattle.pil_names.specs.Least.{least}
use Rattle.pil_names.proofs.mixed.mixed_in_lists.Given as goal

abbrev pub invariant-loop-list : goal.invariant-loop-list
invariant-loop-list l = l.found ≡ least (flat_map (λ x. (λ (t : Tuple). mixed_in (outlined l.outline) l.home (terms_of_list t)) (tuple x)) (take l.list-index l.lists))
