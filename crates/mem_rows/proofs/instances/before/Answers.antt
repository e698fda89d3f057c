use Rattle.mem_rows.proofs.Cells.{last_at}
use Rattle.mem_rows.proofs.instances.before.Goals as goal

pub returns-else-start-eq0 : goal.returns-else-start-eq0
returns-else-start-eq0 c = last_at c.args.accesses.now c.args.start _ c.if-start-eq0.false c.requires
