use Rattle.mem_rows.specs.Initial.{Writes}
use Rattle.mem_rows.proofs.accesses.Accesses.write_range.Given as goal

abbrev pub invariant-loop-k : goal.invariant-loop-k
invariant-loop-k l = Writes l.image l.initial.self l.self l.from l.k
