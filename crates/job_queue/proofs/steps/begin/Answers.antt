use Rattle.std.proofs.Common.{arith}
use Rattle.job_queue.proofs.Keeps.{starts}
use Rattle.job_queue.proofs.steps.begin.Goals as goal

pub another-spent-requires-clause-rule : goal.another-spent-requires-clause-rule
another-spent-requires-clause-rule g c = rw c.requires.blank (starts _ _ _ (omega (arith, c.requires.purpose)))
