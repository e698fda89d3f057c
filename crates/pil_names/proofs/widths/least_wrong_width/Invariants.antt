use Rattle.std.proofs.Common.{ℕ, ◌≡◌, take}
use Rattle.std.specs.List.{flat_map}
use Rattle.pil_names.specs.Outline.{Draft}
use Rattle.pil_names.specs.Wrongs.{each_from, wrong_widths_of}
use Rattle.pil_names.specs.Shown.{home}
use Rattle.pil_names.specs.Least.{least}
use Rattle.pil_names.proofs.widths.least_wrong_width.Given as goal

abbrev pub invariant-loop-space : goal.invariant-loop-space
invariant-loop-space l = l.found ≡ least (each_from (λ n x. flat_map ((λ (n : ℕ) (d : Draft). wrong_widths_of d) n) (home x).items) 0 (take l.space-index l.outline.homes))
