use Rattle.run_rows.proofs.Lists.{passed}
use Rattle.run_rows.proofs.gathering.pass_over.Goals as goal

pub loop-i-preserved : goal.loop-i-preserved
loop-i-preserved c = passed _ _ _ c.loop-i.i c.next_with_row.result c.loop-i.invariant c.next_with_row.ensures.next c.next_with_row.ensures.end
