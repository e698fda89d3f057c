use Rattle.std.proofs.Common.{◌∙◌}
use Rattle.planner.proofs.Keeping.{track_onward, track_same}
use Rattle.planner.proofs.track.Track.after.Goals as goal

pub returns-then-self-size : goal.returns-then-self-size
returns-then-self-size c known l t =
    track_onward c.args.air known c.args.counts.now c.args.self _ _ _ (c.from.ensures ∙ c.rows_in.ensures) (c.from-size.ensures ∙ c.rows.ensures.value) l c.requires.few t c.if-self-size.true

pub returns-else-self-size : goal.returns-else-self-size
returns-else-self-size c known l t =
    track_same c.args.air known c.args.counts.now c.args.self _ _ (c.from.ensures ∙ c.rows_in.ensures) (c.from-size.ensures ∙ c.rows.ensures.value) c.requires.few t c.if-self-size.false
