use Rattle.std.proofs.Common.{◌≡◌, ◌∙◌, ◌++◌, ◌+◌, ◌≤◌, refl, arith, length, take, length-take}
use Rattle.host_io.proofs.Loops.{SameRights-trans, all_given, fed_more, front_grows}
use Rattle.host_io.proofs.reading.read_into.Goals as goal

pub returns-then-count-eq0-clause-all : goal.returns-then-count-eq0-clause-all
returns-then-count-eq0-clause-all g c =
    let i = c.loop-count.invariant.read in
    all_given _ _ _ _ _ c.args.slot.number _ _ c.args.max c.loop-count.done _ _ i _ _ c.in-Ok-read.count c.if-count-eq0.true c.in-Ok-read.ensures.ok

pub returns-then-count-max-clause-front : goal.returns-then-count-max-clause-front
returns-then-count-max-clause-front g c = λ t.
    let i = c.loop-count.invariant.read in
    front_grows _ _ _ c.args.slot.number i.bytes _ _ c.in-Ok-read.count (i.grown t) (c.in-Ok-read.ensures.ok (i.told t))

pub returns-in_default-take-clause-front : goal.returns-in_default-take-clause-front
returns-in_default-take-clause-front g c = λ t.
    let i = c.loop-count.invariant.read in
    front_grows _ _ _ c.args.slot.number i.bytes _ _ c.in-Ok-read.count (i.grown t) (c.in-Ok-read.ensures.ok (i.told t))

pub loop-count-preserved : goal.loop-count-preserved
loop-count-preserved g c =
    let i = c.loop-count.invariant.read in
    let answer = c.in-Ok-read.ensures in
    let may = answer.may_read.more c.if-count-eq0.false in
    let room : c.loop-count.done + c.in-Ok-read.count ≤ c.args.max = omega (arith, i.fits, c.if-count-max.false) in
    let le : c.in-Ok-read.count ≤ length c.read.new.into = omega (arith, answer.within, c.read.auto.into) in
    record {
      rights = SameRights-trans _ _ _ _ _ _ _ _ _ c.loop-count.invariant.rights answer.given may answer.may_write;
      read = fed_more _ _ _ _ _ _ c.args.slot.number _ _ _ c.args.max c.loop-count.done c.in-Ok-read.count _ _ _ i _ c.read.new.into (take c.in-Ok-read.count c.read.new.into) (answer.cause.answered refl) answer.told answer.ok refl le room c.in-Ok-take.ensures.given;
      may = (may c.args.slot.number).1 c.loop-count.invariant.may;
      room = omega (arith, c.loop-count.invariant.room, c.read.auto.into);
      ready = c.in-Ok-take.ensures.ready;
      taken = omega (arith, c.loop-count.invariant.taken, c.in-Ok-take.ensures.taken, length-take c.in-Ok-read.count c.read.new.into);
    }
