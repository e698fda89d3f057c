use Rattle.std.proofs.Common.{◌+◌, ◌*◌, ◌≡◌, refl, arith}
use Rattle.std.specs.Int.{w64}
use Rattle.tab_file.specs.Items.{value_item, number_at}
use Rattle.tab_file.proofs.Going.{IfErr-passed, Pass-more, Fail-more, numbers_from-more}
use Rattle.tab_file.proofs.reading.column_at.Goals as goal

pub returns-in_err-value_at-clause-fail : goal.returns-in_err-value_at-clause-fail
returns-in_err-value_at-clause-fail c =
    IfErr-passed c.from_residual.result c.in_err-value_at.field-0.0 _ c.from_residual.ensures.1 (Fail-more c.args.bytes.now c.args.start c.loop.at c.loop.counter 1 c.args.rows value_item c.in_err-value_at.field-0.0 (omega (arith, c.loop-test.true)) c.loop.invariant.pass c.in_err-value_at.ensures.fail)

pub loop-preserved : goal.loop-preserved
loop-preserved c =
    let value : c.in_ok-value_at.field-0 ≡ number_at w64 c.args.bytes.now c.loop.at = c.in_ok-value_at.ensures.value in
    let place : c.loop.at ≡ c.args.start + c.loop.counter * 8 = omega (arith, c.loop.invariant.next) in
    record {
      values = rw (c.in_ok-push.ensures.ok, c.loop.invariant.values, numbers_from-more w64 c.args.bytes.now c.args.start c.loop.counter, ← place, value) refl;
      next = omega (arith, c.loop.invariant.next);
      pass = Pass-more c.args.bytes.now c.args.start c.loop.at (c.loop.at + 8) c.loop.counter 1 value_item c.loop.invariant.pass c.in_ok-value_at.ensures.pass;
    }
