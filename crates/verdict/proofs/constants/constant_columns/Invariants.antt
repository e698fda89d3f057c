use Rattle.std.proofs.Common.{◌≡◌, map}
use Rattle.std.specs.List.{range_with_len}
use Rattle.verdict.specs.Frames.{constant_column}
use Rattle.verdict.proofs.constants.constant_columns.Given as goal

abbrev pub invariant-loop-column : goal.invariant-loop-column
invariant-loop-column l = l.columns ≡ map (constant_column l.fixed l.place.space l.place.instance l.place.rows) (range_with_len 0 l.column)
