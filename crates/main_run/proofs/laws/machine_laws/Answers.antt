use Rattle.main_run.proofs.Final.{machine_law, rows_law, no_wrap_law}
use Rattle.main_run.proofs.laws.machine_laws.Goals as goal

pub returns-clause-machine : goal.returns-clause-machine
returns-clause-machine c =
    machine_law (record { row = c.main_laws.ensures.row; follows = c.main_laws.ensures.follows; ends = c.main_laws.ensures.ends; selected = c.main_laws.ensures.selected })
    (record { words = c.words_law.ensures.words; entry = c.words_law.ensures.entry; initial = c.initial_law.ensures })
    (record { distinct = c.memory_lines.ensures.distinct; sound = c.memory_bus.ensures.sound; receives = c.memory_bus.ensures.whole })
    (record { stands = c.memory_text.ensures.stands; publics = c.memory_text.ensures.publics })
    (record { rom = c.main_constants.ensures.rom; main = c.main_constants.ensures.main; mem = c.memory_constants.ensures.mem; initial = c.memory_constants.ensures.initial; out = c.memory_constants.ensures.out; profiles = c.main_laws.ensures.profiles; stands = c.memory_text.ensures.stands })
    (record { binary = c.binary_laws.ensures.tuples; shift = c.shift_laws.ensures.tuples; arith = c.arith_laws.ensures.tuples; align = c.align_laws.ensures.tuples })

pub returns-clause-rows : goal.returns-clause-rows
returns-clause-rows c =
    rows_law (record { row = c.main_laws.ensures.row; follows = c.main_laws.ensures.follows; ends = c.main_laws.ensures.ends; selected = c.main_laws.ensures.selected })
    (record { words = c.words_law.ensures.words; entry = c.words_law.ensures.entry; initial = c.initial_law.ensures })
    (record { distinct = c.memory_lines.ensures.distinct; sound = c.memory_bus.ensures.sound; receives = c.memory_bus.ensures.whole })
    (record { stands = c.memory_text.ensures.stands; publics = c.memory_text.ensures.publics })
    (record { rom = c.main_constants.ensures.rom; main = c.main_constants.ensures.main; mem = c.memory_constants.ensures.mem; initial = c.memory_constants.ensures.initial; out = c.memory_constants.ensures.out; profiles = c.main_laws.ensures.profiles; stands = c.memory_text.ensures.stands })
    (record { binary = c.binary_laws.ensures.tuples; shift = c.shift_laws.ensures.tuples; arith = c.arith_laws.ensures.tuples; align = c.align_laws.ensures.tuples })

pub returns-clause-exact : goal.returns-clause-exact
returns-clause-exact c =
    no_wrap_law (record { row = c.main_laws.ensures.row; follows = c.main_laws.ensures.follows; ends = c.main_laws.ensures.ends; selected = c.main_laws.ensures.selected })
    (record { words = c.words_law.ensures.words; entry = c.words_law.ensures.entry; initial = c.initial_law.ensures })
    (record { distinct = c.memory_lines.ensures.distinct; sound = c.memory_bus.ensures.sound; receives = c.memory_bus.ensures.whole })
    (record { stands = c.memory_text.ensures.stands; publics = c.memory_text.ensures.publics })
    (record { rom = c.main_constants.ensures.rom; main = c.main_constants.ensures.main; mem = c.memory_constants.ensures.mem; initial = c.memory_constants.ensures.initial; out = c.memory_constants.ensures.out; profiles = c.main_laws.ensures.profiles; stands = c.memory_text.ensures.stands })
    (record { binary = c.binary_laws.ensures.tuples; shift = c.shift_laws.ensures.tuples; arith = c.arith_laws.ensures.tuples; align = c.align_laws.ensures.tuples })
    (record { main = c.main_laws.ensures.exact; mem = c.memory_lines.ensures.exact; out = c.memory_lines.ensures.out_exact; binary = c.binary_laws.ensures.exact; shift = c.shift_laws.ensures.exact; arith = c.arith_laws.ensures.exact; align = c.align_laws.ensures.exact })
