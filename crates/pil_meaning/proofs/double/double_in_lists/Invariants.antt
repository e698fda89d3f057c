use Rattle.std.proofs.Common.{◌≡◌, take}
use Rattle.std.specs.List.{flat_map}
use Rattle.pil_syntax.specs.Shown.{tuple}
use Rattle.pil_names.specs.Wrongs.{terms_of_list}
use Rattle.pil_meaning.specs.Marks.{double_in_term}
use Rattle.pil_names.specs.Shown.{outlined}
use Rattle.pil_names.specs.Least.{least}
use Rattle.pil_meaning.proofs.double.double_in_lists.Given as goal

abbrev pub invariant-loop-list : goal.invariant-loop-list
invariant-loop-list l = l.found ≡ least (flat_map (λ x. flat_map (double_in_term (outlined l.outline) l.home) (terms_of_list (tuple x))) (take l.list-index l.lists))
