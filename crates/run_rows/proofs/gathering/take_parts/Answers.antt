use Rattle.std.proofs.Common.{refl}
use Rattle.run_rows.proofs.Steps.{chunk_at, part_taken}
use Rattle.run_rows.proofs.gathering.take_parts.Goals as goal

pub take_part-requires : goal.take_part-requires
take_part-requires g c = chunk_at c.args.image.now c.args.chunks.now c.loop-i.i _ c.index-chunks-i.result c.deref.result.now c.loop-i-test.true c.requires.same c.index-chunks-i.is c.deref.ensures c.requires.chunks

pub loop-i-preserved : goal.loop-i-preserved
loop-i-preserved g c =
    part_taken g.T.FromStep.taken c.args.air c.args.image.now c.args.parts.now c.args.chunks.now c.loop-i.i _ _ c.index-chunks-i.result c.deref.result.now _ _ _ c.loop-i-test.true c.requires.same refl c.index-chunks-i.is c.deref.ensures c.in_ok-take_part.ensures c.loop-i.invariant
