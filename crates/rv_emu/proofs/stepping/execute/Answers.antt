use Rattle.mem_pages.specs.Memory.{word_of}
use Rattle.rv_emu.proofs.Executes.{leads_touched}
use Rattle.rv_emu.proofs.stepping.execute.Goals as goal

pub returns-clause-ok : goal.returns-clause-ok
returns-clause-ok c = leads_touched c.execution_law.ensures.good c.args.instr.now c.args.cpu.now c.apply.new.self (word_of c.args.memory.now) (word_of c.touch.new.memory) _ _ _ _ c.in_ok-old.ensures.ok c.apply.ensures.does c.apply.ensures.kept
