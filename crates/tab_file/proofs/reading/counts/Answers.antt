use Rattle.std.proofs.Common.{◌≡◌, ◌+◌, ◌*◌, refl, arith}
use Rattle.std.specs.Int.{w32}
use Rattle.tab_file.proofs.Going.{IfErr-passed, numbers_from-more}
use Rattle.tab_file.proofs.Places.{counts_fail, counts_pass}
use Rattle.tab_file.proofs.reading.counts.Goals as goal

pub count_at-requires : goal.count_at-requires
count_at-requires c = c.loop-air.invariant.whole

pub returns-in_err-count_at-clause-fail : goal.returns-in_err-count_at-clause-fail
returns-in_err-count_at-clause-fail c =
    let e = c.in_err-count_at.field-0.0 in
    IfErr-passed c.from_residual.result e _ c.from_residual.ensures.1
    (counts_fail c.args.bytes.now c.args.start c.args.machine c.args.airs.now c.loop-air.at c.loop-air.air e c.loop-air-test.true c.loop-air.invariant.rest c.in_err-count_at.ensures.fail)

pub loop-air-preserved : goal.loop-air-preserved
loop-air-preserved c =
    let place : c.loop-air.at ≡ c.args.start + c.loop-air.air * 4 = omega (arith, c.loop-air.invariant.next) in
    record {
      values = rw (c.in_ok-push.ensures.items, c.loop-air.invariant.values, numbers_from-more w32 c.args.bytes.now c.args.start c.loop-air.air, ← place, c.in_ok-count_at.ensures.value) refl;
      next = omega (arith, c.loop-air.invariant.next);
      whole = c.in_ok-count_at.ensures.pass.whole;
      rest = counts_pass c.args.bytes.now c.args.start c.args.machine c.args.airs.now c.loop-air.at c.loop-air.air c.loop-air-test.true c.loop-air.invariant.rest c.in_ok-count_at.ensures.pass;
    }
