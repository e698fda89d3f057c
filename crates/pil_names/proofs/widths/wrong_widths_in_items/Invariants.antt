use Rattle.std.proofs.Common.{◌≡◌, take}
use Rattle.std.specs.List.{flat_map}
use Rattle.pil_names.specs.Wrongs.{wrong_widths_of}
use Rattle.pil_names.specs.Shown.{draft}
use Rattle.pil_names.specs.Least.{least}
use Rattle.pil_names.proofs.widths.wrong_widths_in_items.Given as goal

abbrev pub invariant-loop-item : goal.invariant-loop-item
invariant-loop-item l = l.found ≡ least (flat_map (λ x. wrong_widths_of (draft x)) (take l.item-index l.items))
