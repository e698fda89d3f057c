use Rattle.verdict.specs.Frames.{constant_column}
use Rattle.verdict.proofs.Written.{map_more}
use Rattle.verdict.proofs.constants.constant_columns.Goals as goal

pub loop-column-preserved : goal.loop-column-preserved
loop-column-preserved c =
    map_more (constant_column c.args.fixed.now c.args.place.space c.args.place.instance c.args.place.rows) c.loop-column.columns c.push.new.self c.loop-column.column c.in_ok-values.values c.loop-column.invariant c.in_ok-push.ensures.ok c.in_ok-values.ensures
