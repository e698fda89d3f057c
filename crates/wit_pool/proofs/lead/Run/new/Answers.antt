use Rattle.std.specs.Arc.{arc_value}
use Rattle.wit_pool.proofs.Leads.{begun}
use Rattle.wit_pool.proofs.lead.Run.new.Goals as goal

pub returns-clause-running : goal.returns-clause-running
returns-clause-running c = begun (arc_value c.args.image) c.deref.result.now c.args.limit c.in_ok-emu.emu c.in_ok-progress.progress c.in_ok-emu.ensures c.deref.ensures c.in_ok-progress.ensures
