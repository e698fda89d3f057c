use Rattle.std.proofs.Common.{◌∙◌, sym}
use Rattle.crossbeam_queue.specs.Passes.{view}
use Rattle.job_queue.specs.Calls.{capacity_of}
use Rattle.job_queue.proofs.Keeps.{found}
use Rattle.job_queue.proofs.queue.JobQueue.push_as.Goals as goal

pub returns-in-Err-clause-full_for_all : goal.returns-in-Err-clause-full_for_all
returns-in-Err-clause-full_for_all g c = let q = c.requires.queue in λ has_all. found (view c.args.pass) (capacity_of c.args.self.now) c.in-Err.ensures.rule.2 q.share (has_all ∙ sym q.all)
