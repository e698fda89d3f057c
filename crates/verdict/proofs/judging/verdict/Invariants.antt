use Rattle.std.proofs.Common.{take}
use Rattle.machine_columns.specs.Values.{sizes_of}
use Rattle.verdict.specs.Standing.{StandsForTables}
use Rattle.verdict.proofs.judging.verdict.Given as goal

abbrev pub invariant-loop-table : goal.invariant-loop-table
invariant-loop-table l = StandsForTables l.image (sizes_of l.witness) (take l.table-index l.witness.tables) l.run
