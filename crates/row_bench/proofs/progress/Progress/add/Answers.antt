use Rattle.row_bench.proofs.Adding.{room, chunks_more, each_more, counts_more, jobs_more}
use Rattle.row_bench.proofs.progress.Progress.add.Goals as goal

pub add-requires-clause-room : goal.add-requires-clause-room
add-requires-clause-room c = room c.args.image.now c.args.chunk _ c.requires.chunk c.requires.next.plan

pub returns : goal.returns
returns c = record {
  chunks = chunks_more c.chunks_of_a_run.ensures.chunks c.args.image.now c.args.chunk _ _ c.in_ok-chunk.chunk c.requires.chunk c.requires.next.chunks c.in_ok-push.ensures.items c.in_ok-chunk.ensures.ok;
  each = each_more c.args.image.now c.args.chunk _ _ c.in_ok-chunk.chunk c.requires.chunk c.requires.next.each c.in_ok-push.ensures.items c.in_ok-chunk.ensures.ok;
  plan = counts_more c.chunks_of_a_run.ensures.counts c.args.image.now c.args.chunk _ _ c.count-counts.result c.requires.chunk c.requires.next.plan c.count-counts.ensures.value c.in_ok-jobs.ensures.ok;
  jobs = jobs_more c.jobs_handed_out.ensures.push _ _ c.count-counts.result _ _ _ c.requires.next.jobs c.in_ok-jobs.ensures.jobs c.in_ok-append.ensures.items c.in_ok-jobs.ensures.ok;
  accesses = c.in_ok-add_chunk.ensures;
}
