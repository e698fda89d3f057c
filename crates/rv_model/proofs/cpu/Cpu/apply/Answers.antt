use Rattle.rv_model.proofs.Apart.{executed-told}
use Rattle.rv_model.proofs.cpu.Cpu.apply.Goals as goal

pub returns-clause-does : goal.returns-clause-does
returns-clause-does c word touches = executed-told _ c.args.self.now c.perform.new.self c.args.old c.perform.result word c.perform.ensures.told touches
