use Rattle.std.proofs.Common.{ℕ, ◌<◌, ◌^◌, length, map}
use Rattle.pil_names.specs.Outline.{home_at}
use Rattle.pil_names.specs.Shown.{home}
use Rattle.pil_names.proofs.counting.are_items_countable.Given as goal

abbrev pub invariant-loop-home : goal.invariant-loop-home
invariant-loop-home l = (s : ℕ) → s < l.home-index → length (home_at (map home l.homes) s).items < 2 ^ 32
