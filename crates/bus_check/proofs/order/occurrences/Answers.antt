use Rattle.std.proofs.Common.{◌≡◌, ◌<◌, [], length, take, length-take, get_or, sym, ◌∙◌, ap, arith}
use Rattle.std.specs.Str.{bytes_eq}
use Rattle.bus_check.specs.Bus.{held}
use Rattle.pil_laws.proofs.Times.{times_none, times_few, taken_here, taken_other}
use Rattle.bus_check.proofs.order.occurrences.Goals as goal
use Rattle.bus_check.proofs.order.occurrences.Goals.{then-eq, else-eq}

pub loop-place-init : goal.loop-place-init
loop-place-init c = sym (times_none _)

pub overflow_add-count : goal.overflow_add-count
overflow_add-count c =
    let few = times_few c.args.tuple.now (take c.loop-place.place (held c.args.tuples.now)) in
    let cut = length-take c.loop-place.place (held c.args.tuples.now) in
    let inside = c.loop-place-test.true in
    let now = c.loop-place.invariant in
    let end = c.loop-place.auto.place-end in
    omega arith

pub loop-place-preserved : goal.loop-place-preserved
loop-place-preserved c =
    let inside : c.loop-place.place < length (held c.args.tuples.now) = let l = c.loop-place-test.true in let long = c.len-place-end.ensures in omega arith in
    let here : bytes_eq (get_or (held c.args.tuples.now) c.loop-place.place []) c.args.tuple.now ≡ c.eq.result = ap (λ t. bytes_eq t c.args.tuple.now) (sym c.at.ensures) ∙ sym c.eq.ensures in
    let now = c.loop-place.invariant in
    elim c.if-eq.branch [
      | then-eq w ↦ (let m = taken_here c.args.tuple.now (held c.args.tuples.now) c.loop-place.place [] inside (here ∙ w.if-eq.true) in let e = w.count-is in omega arith)
      | else-eq w ↦ (let m = taken_other c.args.tuple.now (held c.args.tuples.now) c.loop-place.place [] inside (here ∙ w.if-eq.false) in let e = w.count-is in omega arith)
    ]
