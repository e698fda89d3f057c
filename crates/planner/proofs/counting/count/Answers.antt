use Rattle.std.proofs.Common.{◌∙◌, ap}
use Rattle.planner.specs.Rows.{counted}
use Rattle.planner.proofs.CountLemmas.{so_far_low, one_low, count_onward, all_counted, records_few}
use Rattle.planner.proofs.counting.count.Goals as goal

pub sum_of-counts-requires-clause-a : goal.sum_of-counts-requires-clause-a
sum_of-counts-requires-clause-a c = so_far_low _ _ _ (records_few _ _ _ _ c.new-replay.ensures c.requires.most) c.loop-step.invariant

pub sum_of-counts-requires-clause-b : goal.sum_of-counts-requires-clause-b
sum_of-counts-requires-clause-b c = one_low _ _ c.rows_of.ensures

pub loop-step-preserved : goal.loop-step-preserved
loop-step-preserved c = count_onward _ _ _ _ c.in-Some.step _ _ c.in-Some.ensures.next c.rows_of.ensures c.sum_of-counts.ensures c.loop-step.invariant

pub returns-clause-value : goal.returns-clause-value
returns-clause-value c = all_counted _ _ _ c.in_default.ensures.next c.loop-step.invariant ∙ ap counted c.new-replay.ensures

pub returns-clause-few : goal.returns-clause-few
returns-clause-few c = so_far_low _ _ _ (records_few _ _ _ _ c.new-replay.ensures c.requires.most) c.loop-step.invariant
