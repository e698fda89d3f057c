use Rattle.std.proofs.Common.{[], length, drop}
use Rattle.gold.specs.Shapes.{places_from}
use Rattle.tab_file.specs.Steps.{Leaves}
use Rattle.tab_file.proofs.reading.tables.Given as goal

abbrev pub invariant-loop-number : goal.invariant-loop-number
invariant-loop-number l =
    Leaves l.bytes (length l.airs) l.start (places_from 0 l.airs l.counts) []
    l.at (places_from l.number (drop l.number l.airs) (drop l.number l.counts)) l.tables
