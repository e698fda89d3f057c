use Rattle.std.proofs.Common.{◌≡◌, map}
use Rattle.std.specs.List.{range_with_len}
use Rattle.mem_rows.specs.Rows.{mem_table}
use Rattle.mem_rows.proofs.instances.tables_of.Given as goal

abbrev pub invariant-loop-instance : goal.invariant-loop-instance
invariant-loop-instance l = l.tables.items ≡ map (mem_table l.accesses) (range_with_len 0 l.instance)
