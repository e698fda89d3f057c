use Rattle.std.proofs.Common.{ap}
use Rattle.std.specs.Global.{Vec}
use Rattle.std.specs.declared.sync.Arc.{Arc}
use Rattle.std.specs.declared.alloc.Global.{Global}
use Rattle.min_trace.specs.Chunk.{Piece}
use Rattle.job_queue.specs.Calls.{image_of}
use Rattle.wit_pool.proofs.Leads.{last_ready}
use Rattle.wit_pool.proofs.hands.Hands.push_last.Goals as goal

pub push_jobs-hands-requires-clause-jobs : goal.push_jobs-hands-requires-clause-jobs
push_jobs-hands-requires-clause-jobs g c =
    last_ready c.jobs_of_a_run.ensures.last c.jobs_handed_out.ensures.finished (image_of c.args.queue.now) c.args.steps c.args.public c.args.progress c.last_jobs.new.self.chunks.items c.in-Ok.jobs.items c.requires.halts c.requires.progress c.in-Ok.ensures.jobs
    (ap (λ (v : Vec (Arc Piece Global)). v.items) c.last_jobs.ensures.same.0)
