use Rattle.std.proofs.Common.{refl}
use Rattle.min_trace.specs.Record.{record_at, old_at}
use Rattle.min_trace.proofs.Facts.{accesses_at, leads_at, writes_at}
use Rattle.min_trace.proofs.laws.record_law.Goals as goal

pub returns-clause-computes : goal.returns-clause-computes
unfolding record_at
returns-clause-computes c image j = (refl, refl)

pub returns-clause-reads : goal.returns-clause-reads
unfolding record_at
returns-clause-reads c image j = (refl, refl, refl)

pub returns-clause-olds : goal.returns-clause-olds
unfolding record_at old_at
returns-clause-olds c image j = refl

pub returns-clause-accesses : goal.returns-clause-accesses
returns-clause-accesses c = accesses_at

pub returns-clause-leads : goal.returns-clause-leads
returns-clause-leads c = leads_at

pub returns-clause-writes : goal.returns-clause-writes
returns-clause-writes c = writes_at c.decoding_law.ensures.found c.decoding_law.ensures.range
