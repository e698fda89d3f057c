use Rattle.std.proofs.Common.{◌≡◌}
use Rattle.verdict.specs.Frames.{constant_column}
use Rattle.verdict.proofs.constants.constant_column.Given as goal

abbrev pub invariant-loop-row : goal.invariant-loop-row
invariant-loop-row l = l.values ≡ constant_column l.fixed l.place.space l.place.instance l.row l.column
