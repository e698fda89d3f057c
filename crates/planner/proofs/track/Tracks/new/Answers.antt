use Rattle.planner.proofs.Keeping.{each_track, track_new}
use Rattle.planner.proofs.track.Tracks.new.Goals as goal

pub returns : goal.returns
returns c =
    each_track _ _ (track_new _ _ c.new.ensures) (track_new _ _ c.new-2.ensures) (track_new _ _ c.new-3.ensures) (track_new _ _ c.new-4.ensures) (track_new _ _ c.new-5.ensures)
