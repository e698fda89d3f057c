use Rattle.min_trace.proofs.After.{here_at, range_at, rs1_at, rs2_at, rd_at}
use Rattle.min_trace.proofs.run_laws.instruction_law.Goals as goal

pub returns-clause-here : goal.returns-clause-here
returns-clause-here c = here_at

pub returns-clause-range : goal.returns-clause-range
returns-clause-range c = range_at c.decoding_law.ensures.found c.decoding_law.ensures.range

pub returns-clause-rs1 : goal.returns-clause-rs1
returns-clause-rs1 c = rs1_at c.decoding_law.ensures.found c.decoding_law.ensures.range

pub returns-clause-rs2 : goal.returns-clause-rs2
returns-clause-rs2 c = rs2_at c.decoding_law.ensures.found c.decoding_law.ensures.range

pub returns-clause-rd : goal.returns-clause-rd
returns-clause-rd c = rd_at c.decoding_law.ensures.found c.decoding_law.ensures.range
