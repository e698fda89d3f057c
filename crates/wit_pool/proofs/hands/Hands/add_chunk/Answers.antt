use Rattle.std.proofs.Common.{◌+◌}
use Rattle.min_trace.specs.Chunk.{first_step}
use Rattle.job_queue.specs.Calls.{image_of}
use Rattle.wit_pool.specs.Serving.{pushed_of}
use Rattle.wit_pool.proofs.Leads.{on_ok, added_ready, handed_more}
use Rattle.wit_pool.proofs.hands.Hands.add_chunk.Goals as goal

pub push_jobs-requires-clause-jobs : goal.push_jobs-requires-clause-jobs
push_jobs-requires-clause-jobs g c =
    added_ready c.jobs_of_a_run.ensures.whole (image_of c.args.queue.now) c.image.result.now (first_step c.args.chunk.number + c.args.chunk.steps) c.add.new.self.chunks.items c.in-Ok.jobs.items c.image.ensures c.requires.border c.in-Ok.ensures.next.chunks c.in-Ok.ensures.whole

pub returns-clause-pushed : goal.returns-clause-pushed
returns-clause-pushed g c =
    on_ok c.push_jobs.result.1
    (handed_more (image_of c.args.queue.now) c.image.result.now (first_step c.args.chunk.number) (first_step c.args.chunk.number + c.args.chunk.steps) (pushed_of c.args.self) (pushed_of c.push_jobs.result.0) c.in-Ok.jobs.items c.image.ensures c.requires.serving.pushed c.in-Ok.ensures.jobs)
    c.push_jobs.ensures.pushed
