use Rattle.std.proofs.Common.{◌≡◌}
use Rattle.mem_rows.proofs.Walked.{pushed}
use Rattle.mem_rows.proofs.accesses.push_all.Goals as goal

pub returns : goal.returns
returns c = let h = c.in_ok-extend.ensures.ran in pushed _ _ _ h.0 h.1 h.2 h.3.0 h.4
