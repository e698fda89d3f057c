use Rattle.air_mem.proofs.Constants.{mem_constants_law, init_constants_law, out_constants_law, init_reach}
use Rattle.air_mem.proofs.laws.memory_constants.Goals as goal

pub returns-clause-mem : goal.returns-clause-mem
returns-clause-mem c = mem_constants_law

pub returns-clause-initial : goal.returns-clause-initial
returns-clause-initial c = init_constants_law

pub returns-clause-out : goal.returns-clause-out
returns-clause-out c = out_constants_law

pub returns-clause-reach : goal.returns-clause-reach
returns-clause-reach c = init_reach
