use Rattle.std.proofs.Common.{[], refl, sym, ◌∙◌, ap, arith}
use Rattle.std.proofs.lemmas.Bool.{true≢false}
use Rattle.std.specs.Ordering.{nat_cmp}
use Rattle.std.specs.Cmp.Lexicographic.{slice_cmp}
use Rattle.bus_check.specs.Bus.{held}
use Rattle.bus_check.proofs.Sorted.{search-up, search-down, search-found, search-missed}
use Rattle.bus_check.proofs.order.stands_in.Goals as goal

pub loop-low-preserved-in-Less : goal.loop-low-preserved-in-Less
loop-low-preserved-in-Less c =
    search-up (held c.args.tuples.now) c.args.tuple.now c.loop-low.low c.loop-low.high _ [] c.requires c.loop-low.invariant (let l = c.loop-low-test.true in omega arith)
    (ap (λ t. slice_cmp nat_cmp t c.args.tuple.now) (sym c.at.ensures) ∙ sym c.cmp.ensures ∙ c.in-Less.is)

pub returns-in-Equal : goal.returns-in-Equal
returns-in-Equal c = (
  λ t. search-found (held c.args.tuples.now) c.args.tuple.now _ [] (let l = c.loop-low-test.true in let i = c.loop-low.invariant.inside in omega arith) (ap (λ t. slice_cmp nat_cmp t c.args.tuple.now) (sym c.at.ensures) ∙ sym c.cmp.ensures ∙ c.in-Equal.is),
  λ n. refl,
)

pub loop-low-preserved : goal.loop-low-preserved
loop-low-preserved c =
    search-down (held c.args.tuples.now) c.args.tuple.now c.loop-low.low c.loop-low.high _ [] c.requires c.loop-low.invariant (let l = c.loop-low-test.true in let i = c.loop-low.invariant.inside in omega arith)
    (ap (λ t. slice_cmp nat_cmp t c.args.tuple.now) (sym c.at.ensures) ∙ sym c.cmp.ensures ∙ c.in-Greater.is)

pub returns : goal.returns
returns c = (
  λ t. absurd (true≢false (sym t)),
  λ n. absurd (n (search-missed (held c.args.tuples.now) c.args.tuple.now c.loop-low.low c.loop-low.high c.loop-low.invariant (let l = c.loop-low-test.false in omega arith))),
)
