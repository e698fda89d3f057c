use Rattle.machine_columns.proofs.Found.{counted_seen}
use Rattle.machine_columns.proofs.columns.MachineColumnsColumns.instances.Goals as goal

pub returns : goal.returns
returns c = counted_seen c.self.inside.image.now c.self.inside.fixed c.self.inside.tables c.self.invariant c.args.self.now c.self.view_is c.args.space c.instances.result c.instances.ensures
