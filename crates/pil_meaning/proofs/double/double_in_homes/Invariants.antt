use Rattle.std.proofs.Common.{◌≡◌, take}
use Rattle.std.specs.List.{flat_map}
use Rattle.pil_names.specs.Wrongs.{each_from}
use Rattle.pil_meaning.specs.Marks.{double_in_draft}
use Rattle.pil_names.specs.Shown.{home, outlined}
use Rattle.pil_names.specs.Least.{least}
use Rattle.pil_meaning.proofs.double.double_in_homes.Given as goal

abbrev pub invariant-loop-space : goal.invariant-loop-space
invariant-loop-space l = record { number : l.number ≡ l.space-index; found : l.found ≡ least (each_from (λ n x. flat_map ((double_in_draft (outlined l.outline)) n) (home x).items) 0 (take l.space-index l.outline.homes)) }
