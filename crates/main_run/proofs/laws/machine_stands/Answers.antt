use Rattle.main_run.proofs.Final.{stands_law}
use Rattle.main_run.proofs.laws.machine_stands.Goals as goal

pub returns : goal.returns
returns c =
    stands_law (record { rom = c.main_constants.ensures.rom; main = c.main_constants.ensures.main; mem = c.memory_constants.ensures.mem; initial = c.memory_constants.ensures.initial; out = c.memory_constants.ensures.out; profiles = c.main_laws.ensures.profiles; stands = c.memory_text.ensures.stands })
