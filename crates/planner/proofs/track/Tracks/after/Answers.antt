use Rattle.zk_layout.specs.declared.air.Air.TheVariants.{Main, Binary, Shift, Arith, Align}
use Rattle.planner.proofs.Keeping.{each_track, track_at}
use Rattle.planner.proofs.track.Tracks.after.Goals as goal

pub returns : goal.returns
returns c known l h =
    each_track _ _ (c.after.ensures known l (track_at c.of.ensures (h Main))) (c.after-2.ensures known l (track_at c.of-2.ensures (h Binary))) (c.after-3.ensures known l (track_at c.of-3.ensures (h Shift)))
    (c.after-4.ensures known l (track_at c.of-4.ensures (h Arith))) (c.after-5.ensures known l (track_at c.of-5.ensures (h Align)))
