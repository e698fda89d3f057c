use Rattle.std.proofs.Common.{◌∙◌}
use Rattle.planner.proofs.Keeping.{whole_of}
use Rattle.planner.proofs.plan.push_whole.Goals as goal

pub returns-in_ok-push : goal.returns-in_ok-push
returns-in_ok-push c =
    whole_of c.args.air c.args.counts.now _ _ c.of-track.result c.of.result c.from-size.result _ _ c.in_ok-job.job c.requires.next c.of-track.ensures c.of.ensures (c.from-size.ensures ∙ c.rows.ensures.value) c.if-instance-of.true c.in_ok-job.ensures c.in_ok-push.ensures.items
