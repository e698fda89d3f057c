use Rattle.std.proofs.Common.{◌≡◌, ◌+◌, sum_by, take, map}
use Rattle.std.specs.List.{range_with_len}
use Rattle.pil_names.specs.Shown.{draft}
use Rattle.pil_meaning.specs.Meaning.{constant_columns, committed_columns}
use Rattle.pil_meaning.specs.Firsts.{first_at}
use Rattle.pil_meaning.proofs.firsts.firsts_of_home.Given as goal

abbrev pub invariant-loop-item : goal.invariant-loop-item
invariant-loop-item l =
    (l.firsts ≡ map (first_at (map draft l.items)) (range_with_len 0 l.item-index))
    × (l.constants ≡ sum_by constant_columns (take l.item-index (map draft l.items)))
    × (l.committed ≡ sum_by constant_columns (map draft l.items) + sum_by committed_columns (take l.item-index (map draft l.items)))
