use Rattle.mem_rows.proofs.Added.{adds_behind}
use Rattle.mem_rows.proofs.accesses.Accesses.push_last.Goals as goal

pub returns : goal.returns
returns c = adds_behind _ _ _ _ _ c.in_ok-put.ensures c.in_ok-push_output.ensures
