use Rattle.mem_rows.proofs.Added.{empty_reach}
use Rattle.mem_rows.proofs.accesses.Accesses.empty.Goals as goal

pub invariant_of-result : goal.invariant_of-result
invariant_of-result c = empty_reach _ c.new.ensures
