use Rattle.min_trace.proofs.Completes.{registers_at}
use Rattle.min_trace.proofs.After.{after_at, next_at, halt_at}
use Rattle.min_trace.proofs.run_laws.state_law.Goals as goal

pub returns-clause-registers : goal.returns-clause-registers
returns-clause-registers c image j = (registers_at image j).count

pub returns-clause-zero : goal.returns-clause-zero
returns-clause-zero c image j = (registers_at image j).first

pub returns-clause-after : goal.returns-clause-after
returns-clause-after c = after_at c.decoding_law.ensures.found c.decoding_law.ensures.range

pub returns-clause-next : goal.returns-clause-next
returns-clause-next c = next_at

pub returns-clause-halt : goal.returns-clause-halt
returns-clause-halt c = halt_at
