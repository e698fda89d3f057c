use Rattle.wit_pool.proofs.Adding.{room, chunks_more, each_more, counts_more, whole_more}
use Rattle.wit_pool.proofs.progress.Progress.add.Goals as goal

pub add-requires-clause-room : goal.add-requires-clause-room
add-requires-clause-room c = room c.args.image.now c.args.chunk _ c.requires.chunk c.requires.next.plan

pub returns-clause-next : goal.returns-clause-next
returns-clause-next c = record {
  chunks = record {
    all = chunks_more c.chunks_of_a_run.ensures.chunks c.args.image.now c.args.chunk _ _ c.in_ok-chunk.chunk c.requires.chunk c.requires.next.chunks.all c.in_ok-push.ensures.items c.in_ok-chunk.ensures.ok;
    each = each_more c.args.image.now c.args.chunk _ _ c.in_ok-chunk.chunk c.requires.chunk c.requires.next.chunks.each c.in_ok-push.ensures.items c.in_ok-chunk.ensures.ok;
  };
  plan = counts_more c.chunks_of_a_run.ensures.counts c.args.image.now c.args.chunk _ _ c.count-counts.result c.requires.chunk c.requires.next.plan c.count-counts.ensures.value c.in_ok-jobs.ensures.ok;
  accesses = c.in_ok-add_chunk.ensures;
}

pub returns-clause-whole : goal.returns-clause-whole
returns-clause-whole c = whole_more c.jobs_handed_out.ensures.added c.chunks_of_a_run.ensures.counts c.args.image.now c.args.chunk c.args.self.now.plan c.count-counts.result c.in_ok-jobs.jobs.items c.requires.chunk c.requires.next.plan c.count-counts.ensures.value c.in_ok-jobs.ensures.jobs
