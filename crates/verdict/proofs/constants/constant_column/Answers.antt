use Rattle.fixed_cols.specs.Constants.{constant_in}
use Rattle.zk_layout.specs.Namespaces.{namespace_at}
use Rattle.verdict.proofs.Written.{map_more}
use Rattle.verdict.proofs.constants.constant_column.Goals as goal

pub loop-row-preserved : goal.loop-row-preserved
loop-row-preserved c =
    map_more (λ r. constant_in c.args.fixed.now (namespace_at c.args.place.space) c.args.place.instance c.args.column r) c.loop-row.values c.push.new.self c.loop-row.row c.at.result c.loop-row.invariant c.in_ok-push.ensures.ok c.at.ensures
