use Rattle.run_tables.proofs.Found.{inside, found_more}
use Rattle.run_tables.proofs.naming.chunks_at.Goals as goal

pub loop-part-preserved : goal.loop-part-preserved
loop-part-preserved c = λ f known.
    found_more c.args.chunks.now _ _ c.args.parts.now c.loop-part.part-index _ c.index-chunks-part.result c.in_ok-chunk.chunk f c.loop-part-test.true (inside c.args.parts.now c.loop-part.part-index _ _ c.loop-part-test.true c.requires) c.index-chunks-part.is c.in_ok-chunk.ensures c.in_ok-push.ensures.items known (c.loop-part.invariant f known)
