use Rattle.mem_rows.specs.Accesses.{output_reads}
use Rattle.mem_rows.specs.Kept.{Adds}
use Rattle.mem_rows.proofs.accesses.Accesses.push_output.Given as goal

abbrev pub invariant-loop-k : goal.invariant-loop-k
invariant-loop-k l = Adds l.initial.self l.self (output_reads l.public l.k)
