use Rattle.std.proofs.Common.{◌≡◌, length}
use Rattle.planner.specs.Rows.{with_row}
use Rattle.run_rows.proofs.gathering.next_with_row.Given as goal

abbrev pub invariant-loop-step : goal.invariant-loop-step
invariant-loop-step l = with_row l.air l.replay ≡ with_row l.air l.initial.replay

abbrev pub decreases-loop-step : goal.decreases-loop-step
decreases-loop-step l = length l.replay
