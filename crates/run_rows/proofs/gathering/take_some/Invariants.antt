use Rattle.std.proofs.Common.{◌≡◌, ◌++◌, map, take, drop}
use Rattle.planner.specs.Rows.{with_row}
use Rattle.run_rows.proofs.gathering.take_some.Given as goal

abbrev pub invariant-loop-i : goal.invariant-loop-i
invariant-loop-i g l = record {
  left : with_row l.air l.replay ≡ drop l.i (with_row l.air l.initial.replay);
  made : l.found.items ≡ l.initial.found.items ++ map g.T.FromStep.taken (take l.i (with_row l.air l.initial.replay));
}
