use Rattle.job_queue.proofs.Keeps.{merges}
use Rattle.job_queue.proofs.queue.JobQueue.join.Goals as goal

pub absorb-requires-clause-rule : goal.absorb-requires-clause-rule
absorb-requires-clause-rule c = merges _ _ _ _ c.requires.queue.0.share c.requires.queue.1.share
