use Rattle.std.proofs.Common.{◌≡◌, take}
use Rattle.std.specs.List.{flat_map}
use Rattle.pil_syntax.specs.Shown.{tuple}
use Rattle.pil_names.specs.Wrongs.{other_width}
use Rattle.pil_names.specs.Least.{least}
use Rattle.pil_names.proofs.widths.other_widths.Given as goal

abbrev pub invariant-loop-list : goal.invariant-loop-list
invariant-loop-list l = l.found ≡ least (flat_map (λ x. other_width l.width (tuple x)) (take l.list-index l.lists))
