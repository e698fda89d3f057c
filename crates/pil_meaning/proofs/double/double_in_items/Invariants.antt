use Rattle.std.proofs.Common.{◌≡◌, take}
use Rattle.std.specs.List.{flat_map}
use Rattle.pil_meaning.specs.Marks.{double_in_draft}
use Rattle.pil_names.specs.Shown.{draft, outlined}
use Rattle.pil_names.specs.Least.{least}
use Rattle.pil_meaning.proofs.double.double_in_items.Given as goal

abbrev pub invariant-loop-item : goal.invariant-loop-item
invariant-loop-item l = l.found ≡ least (flat_map (λ x. double_in_draft (outlined l.outline) l.home (draft x)) (take l.item-index l.items))
