use Rattle.std.proofs.Common.{◌≡◌, length}
use Rattle.planner.specs.Rows.{counted, sum_of}
use Rattle.planner.proofs.counting.count.Given as goal

abbrev pub invariant-loop-step : goal.invariant-loop-step
invariant-loop-step l = sum_of l.counts (counted l.replay) ≡ counted l.initial.replay

abbrev pub decreases-loop-step : goal.decreases-loop-step
decreases-loop-step l = length l.replay
