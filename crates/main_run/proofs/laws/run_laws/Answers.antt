use Rattle.main_run.proofs.Bus.{run_bus_law}
use Rattle.main_run.proofs.Run.{begin_law, steps_law, halt_law}
use Rattle.main_run.proofs.laws.run_laws.Goals as goal

pub returns-clause-bus : goal.returns-clause-bus
returns-clause-bus c = run_bus_law (record { row = c.main_laws.ensures.row; follows = c.main_laws.ensures.follows; ends = c.main_laws.ensures.ends; selected = c.main_laws.ensures.selected }) (record { words = c.words_law.ensures.words; entry = c.words_law.ensures.entry; initial = c.initial_law.ensures }) (record { distinct = c.memory_lines.ensures.distinct; sound = c.memory_bus.ensures.sound; receives = c.memory_bus.ensures.whole })

pub returns-clause-begin : goal.returns-clause-begin
returns-clause-begin c = begin_law (record { row = c.main_laws.ensures.row; follows = c.main_laws.ensures.follows; ends = c.main_laws.ensures.ends; selected = c.main_laws.ensures.selected }) (record { words = c.words_law.ensures.words; entry = c.words_law.ensures.entry; initial = c.initial_law.ensures })

pub returns-clause-steps : goal.returns-clause-steps
returns-clause-steps c = steps_law (record { row = c.main_laws.ensures.row; follows = c.main_laws.ensures.follows; ends = c.main_laws.ensures.ends; selected = c.main_laws.ensures.selected }) (record { words = c.words_law.ensures.words; entry = c.words_law.ensures.entry; initial = c.initial_law.ensures })

pub returns-clause-halts : goal.returns-clause-halts
returns-clause-halts c = halt_law (record { row = c.main_laws.ensures.row; follows = c.main_laws.ensures.follows; ends = c.main_laws.ensures.ends; selected = c.main_laws.ensures.selected }) (record { words = c.words_law.ensures.words; entry = c.words_law.ensures.entry; initial = c.initial_law.ensures })
