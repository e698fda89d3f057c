use Rattle.std.proofs.Common.{◌≡◌, ◌≤◌, ◌+◌, ◌-◌, drop, length}
use Rattle.std.specs.Prelude.{◌==◌}
use Rattle.std.specs.List.{prefix_len}
use Rattle.wit_columns.proofs.table_columns.end_of.Given as goal

abbrev pub invariant-loop-end : goal.invariant-loop-end
invariant-loop-end l = record {
  inside : l.end ≤ length l.tables;
  past : l.end + prefix_len (λ t. t.air == l.air) (drop l.end l.tables) ≡ l.start + prefix_len (λ t. t.air == l.air) (drop l.start l.tables);
}

abbrev pub decreases-loop-end : goal.decreases-loop-end
decreases-loop-end l = length l.tables - l.end
