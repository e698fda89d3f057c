use Rattle.job_queue.proofs.Keeps.{puts, learns}
use Rattle.job_queue.proofs.steps.push.Goals as goal

pub push_as-requires-clause-rule : goal.push_as-requires-clause-rule
push_as-requires-clause-rule g c = (puts _ _ _ _ c.requires.queue.1 c.requires.ticket, learns _ _)
