use Rattle.std.proofs.Common.{◌≡◌, drop}
use Rattle.planner.specs.Rows.{with_row}
use Rattle.run_rows.proofs.gathering.pass_over.Given as goal

abbrev pub invariant-loop-i : goal.invariant-loop-i
invariant-loop-i l = with_row l.air l.replay ≡ drop l.i (with_row l.air l.initial.replay)
