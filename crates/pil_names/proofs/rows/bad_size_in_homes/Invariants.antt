use Rattle.std.proofs.Common.{◌≡◌, take}
use Rattle.std.specs.List.{flat_map}
use Rattle.pil_names.specs.Wrongs.{bad_size}
use Rattle.pil_names.specs.Shown.{home, outlined}
use Rattle.pil_names.specs.Outline.{Home}
use Rattle.pil_names.specs.Least.{least}
use Rattle.pil_names.proofs.rows.bad_size_in_homes.Given as goal

abbrev pub invariant-loop-space : goal.invariant-loop-space
invariant-loop-space l = l.found ≡ least (flat_map (λ x. (λ (h : Home). bad_size (outlined l.outline) h.size) (home x)) (take l.space-index l.outline.homes))
