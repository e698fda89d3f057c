use Rattle.rv_emu.specs.Emulator.{state_of}
use Rattle.rv_emu.proofs.Executes.{leads_all}
use Rattle.rv_emu.proofs.stepping.execute_decoded.Goals as goal

pub returns-clause-ok : goal.returns-clause-ok
returns-clause-ok c = leads_all c.args.image.now (state_of c.args.cpu.now c.args.memory.now) _ c.args.instr.now c.execute.result c.args.olds.now.items _ c.requires c.execute.ensures.ok
