use Rattle.std.proofs.Common.{◌≡◌, map, length, subst, arith}
use Rattle.pil_names.specs.Shown.{draft}
use Rattle.pil_text.specs.Cyclic.{IsLeastOf, IsFlagged}
use Rattle.pil_text.proofs.Cyclic.{loop_more, any_default}
use Rattle.pil_text.proofs.cycles.least_flagged.Goals as goal

pub loop-item-preserved : goal.loop-item-preserved
loop-item-preserved c = loop_more c.args.items.now c.args.flags.now c.loop-item.item _ c.index-items-item.result c.loop-item.found c.lesser-found.result c.place_if.result c.loop-item-test.true c.requires c.index-items-item.is (any_default c.args.flags.now c.loop-item.item _ _ (let l = c.loop-item-test.true in omega (arith, l, c.requires))) c.place_if.ensures c.lesser-found.ensures c.loop-item.invariant

pub returns : goal.returns
returns c = let same : c.loop-item.item ≡ length c.args.items.now = omega (arith, c.loop-item-test.false, c.loop-item.auto.item-end) in subst (λ n. IsLeastOf (IsFlagged (map draft c.args.items.now) c.args.flags.now n) c.loop-item.found) same c.loop-item.invariant
