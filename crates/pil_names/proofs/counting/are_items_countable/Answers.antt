use Rattle.std.proofs.Common.{◌<◌, ◌^◌, refl, length, map, arith, below_more}
use Rattle.pil_names.specs.Outline.{home_at}
use Rattle.pil_names.specs.Shown.{home}
use Rattle.pil_names.proofs.Each.{items-there, items-all}
use Rattle.pil_names.proofs.counting.are_items_countable.Goals as goal

pub returns-then-len-ge-NUMBERS : goal.returns-then-len-ge-NUMBERS
returns-then-len-ge-NUMBERS c =
    let i = c.loop-home.home-index in
    let e = items-there c.args.homes.now i c.home-item.result c.home-item.result c.loop-home-test.true c.home-item.is in
    (λ t s. absurd cc, λ all. absurd (omega (arith, all i, e, c.len.ensures, c.if-len-ge-NUMBERS.true)))

pub loop-home-preserved : goal.loop-home-preserved
loop-home-preserved c =
    let i = c.loop-home.home-index in
    let e = items-there c.args.homes.now i c.home-item.result c.home-item.result c.loop-home-test.true c.home-item.is in
    below_more (λ s. length (home_at (map home c.args.homes.now) s).items < 2 ^ 32) i c.loop-home.invariant (omega (arith, e, c.len.ensures, c.if-len-ge-NUMBERS.false))

pub returns : goal.returns
returns c = (λ t. items-all c.args.homes.now (2 ^ 32) (omega arith) (λ s h. c.loop-home.invariant s (omega (arith, h, c.loop-home-test.false))), λ all. refl)
