use Rattle.std.proofs.Common.{◌≡◌}
use Rattle.mem_rows.proofs.Walked.{key_more, all_ordered, all_times}
use Rattle.mem_rows.proofs.accesses.Accesses.ordered.Goals as goal

pub loop-key-preserved : goal.loop-key-preserved
loop-key-preserved c = key_more c.self.inside.pool c.deref-key-items.result.now c.loop-key.key-index _ _ _ c.loop-key-test.true c.loop-key.invariant c.walk.ensures c.in_ok-push_all.ensures

pub returns-clause-ordered : goal.returns-clause-ordered
returns-clause-ordered c = all_ordered c.self.inside.pool c.args.self.now _ c.deref-key-items.result.now c.in_ok-keys.keys.items c.loop-key.key-index c.loop-key.invariant c.loop-key-test.false c.deref-key-items.ensures.value c.in_ok-keys.ensures.ascending c.in_ok-keys.ensures.exact c.self.invariant c.self.view_is

pub returns-clause-times : goal.returns-clause-times
returns-clause-times c = all_times c.self.inside.pool _ c.deref-key-items.result.now c.loop-key.key-index c.loop-key.invariant c.self.invariant
