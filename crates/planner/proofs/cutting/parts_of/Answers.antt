use Rattle.std.proofs.Common.{rules, arith, ◌∙◌}
use Rattle.planner.proofs.Walk.{one_more, at_return, none_yet}
use Rattle.planner.proofs.cutting.parts_of.Goals as goal

pub loop-chunk-init : goal.loop-chunk-init
loop-chunk-init c = record { done = none_yet _ _ c.new-taken.ensures; low = omega arith }

pub loop-chunk-preserved : goal.loop-chunk-preserved
loop-chunk-preserved c = record {
  done = one_more _ _ _ c.loop-chunk.at c.args.counts.now c.loop-chunk.chunk _ _ _ _ c.from-in-loop-chunk.result c.max.result c.min.result c.loop-chunk-test.true (c.from-in-loop-chunk.ensures ∙ c.rows_in.ensures) (search rules) (search rules) c.in_ok-push_part.ensures c.loop-chunk.invariant.done;
  low = omega arith;
}

pub overflow_add-end : goal.overflow_add-end
overflow_add-end c = omega arith

pub returns : goal.returns
returns c =
    at_return c.args.air c.args.counts.now c.args.instance c.args.start c.args.first c.from.result c.from-rows.result c.loop-chunk.at c.loop-chunk.chunk _ c.requires.start c.from.ensures (c.from-rows.ensures ∙ c.rows.ensures.value) c.loop-chunk-test.false c.loop-chunk.invariant.done
