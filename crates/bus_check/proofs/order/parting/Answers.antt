use Rattle.std.proofs.Common.{[], sym, ◌∙◌, below_more, arith}
use Rattle.std.proofs.lemmas.List.{get_or_default}
use Rattle.bus_check.specs.Bus.{held}
use Rattle.bus_check.proofs.Times.{unlike, alike}
use Rattle.bus_check.proofs.order.parting.Goals as goal

pub returns-then-ne : goal.returns-then-ne
returns-then-ne c =
    let ll = c.len.ensures in
    let rl = c.len-2.ensures in
    let short = c.min-shorter.ensures in
    let below = c.loop-place-test.true in
    record {
      left = omega arith;
      right = omega arith;
      same = c.loop-place.invariant;
      differ = λ d p q e.
          unlike c.at.result.now c.at-in-loop-place.result.now c.ne.result c.ne.ensures c.if-ne.true
          (c.at.ensures ∙ get_or_default (held c.args.left.now) c.loop-place.place [] d p ∙ e ∙ sym (c.at-in-loop-place.ensures ∙ get_or_default (held c.args.right.now) c.loop-place.place [] d q));
    }

pub loop-place-preserved : goal.loop-place-preserved
loop-place-preserved c =
    let ll = c.len.ensures in
    let rl = c.len-2.ensures in
    let short = c.min-shorter.ensures in
    let below = c.loop-place-test.true in
    λ k d l. below_more _ _ (λ k l. c.loop-place.invariant k d l)
    (sym (c.at.ensures ∙ get_or_default (held c.args.left.now) c.loop-place.place [] d (omega arith)) ∙ alike c.at.result.now c.at-in-loop-place.result.now c.ne.result c.ne.ensures c.if-ne.false ∙ c.at-in-loop-place.ensures ∙ get_or_default (held c.args.right.now) c.loop-place.place [] d (omega arith))
    k l
