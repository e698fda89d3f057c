use Rattle.std.proofs.Common.{refl}
use Rattle.run_rows.proofs.Lists.{passed, put, stayed}
use Rattle.run_rows.proofs.gathering.take_some.Goals as goal
use Rattle.run_rows.proofs.gathering.take_some.Goals.{in-Some+in_ok-push, in_default}

pub loop-i-preserved : goal.loop-i-preserved
loop-i-preserved g c = record {
  left = passed _ _ _ c.loop-i.i c.next_with_row.result c.loop-i.invariant.left c.next_with_row.ensures.next c.next_with_row.ensures.end;
  made = elim c.match-next_with_row.branch [
    | in-Some+in_ok-push w ↦ rw w.found-is (put g.T.FromStep.taken _ _ _ _ _ _ c.loop-i.i _ _ c.loop-i.invariant.left w.in-Some.ensures.next c.loop-i.invariant.made w.from_step.ensures w.in_ok-push.ensures.items)
    | in_default w ↦ rw w.found-is (stayed g.T.FromStep.taken _ _ _ _ _ c.loop-i.i c.loop-i.invariant.left w.in_default.ensures.next c.loop-i.invariant.made refl)
  ];
}
