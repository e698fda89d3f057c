use Rattle.job_queue.proofs.Keeps.{takes, learns}
use Rattle.job_queue.proofs.steps.pop.Goals as goal

pub pop_as-requires-clause-rule : goal.pop_as-requires-clause-rule
pop_as-requires-clause-rule g c = (takes _ _ c.requires.queue.1, learns _ _)
