use Rattle.mem_rows.proofs.Cells.{table_more}
use Rattle.mem_rows.proofs.instances.tables_of.Goals as goal

pub loop-instance-preserved : goal.loop-instance-preserved
loop-instance-preserved c = table_more c.args.accesses.now c.loop-instance.instance _ _ _ c.loop-instance.invariant c.in_ok-instance_of.ensures c.in_ok-push.ensures.items
