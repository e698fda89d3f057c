use Rattle.std.proofs.Common.{◌≡◌, map, take}
use Rattle.pil_names.specs.Shown.{home}
use Rattle.pil_meaning.specs.Firsts.{firsts_of_items}
use Rattle.pil_meaning.proofs.firsts.first_columns.Given as goal

abbrev pub invariant-loop-home : goal.invariant-loop-home
invariant-loop-home l = l.firsts ≡ map (λ h. firsts_of_items (home h).items) (take l.home-index l.outline.homes)
