use Rattle.std.proofs.Common.{◌+◌}
use Rattle.min_trace.specs.Chunk.{first_step}
use Rattle.job_queue.specs.Calls.{image_of}
use Rattle.wit_pool.specs.Serving.{pushed_of}
use Rattle.wit_pool.proofs.Leads.{on_ok, are_all}
use Rattle.wit_pool.proofs.hands.Hands.end.Goals as goal

pub returns-clause-pushed : goal.returns-clause-pushed
returns-clause-pushed g c =
    rw (← c.chunk.view_is)
    (on_ok c.push_last.result.1 (are_all c.each_job_once.ensures (image_of c.args.queue.now) (first_step c.chunk.inside.number + c.chunk.inside.steps) (pushed_of c.push_last.result.0)) c.push_last.ensures.pushed)
