use Rattle.std.proofs.Common.{◌≡◌, ◌≤◌, ◌+◌, ◌*◌, replicate, refl, subst, arith}
use Rattle.std.proofs.Math.Nat.{mul-le-mul_right}
use Rattle.tab_file.specs.Items.{value_item}
use Rattle.tab_file.specs.Steps.{Pass}
use Rattle.tab_file.proofs.Going.{IfErr-passed, Pass-more, Fail-more, columns_from-more}
use Rattle.tab_file.proofs.reading.columns_at.Goals as goal

pub returns-in_err-column-clause-fail : goal.returns-in_err-column-clause-fail
returns-in_err-column-clause-fail c =
    let rows = c.args.form.now.rows in
    let below : c.loop.counter + 1 ≤ c.args.form.now.columns = omega (arith, c.loop-test.true) in
    let le : c.loop.counter * c.args.form.now.rows + c.args.form.now.rows ≤ c.args.form.now.columns * c.args.form.now.rows = omega (arith, mul-le-mul_right rows below) in
    IfErr-passed c.from_residual.result c.in_err-column.field-0.0 _ c.from_residual.ensures.1 (Fail-more c.args.bytes.now c.args.start c.loop.at (c.loop.counter * rows) rows (c.args.form.now.columns * rows) value_item c.in_err-column.field-0.0 le c.loop.invariant.pass c.in_err-column.ensures.fail)

pub loop-preserved : goal.loop-preserved
loop-preserved c =
    let rows = c.args.form.now.rows in
    let place : c.loop.at ≡ c.args.start + 8 * (c.loop.counter * c.args.form.now.rows) = c.loop.invariant.next in
    let more : c.loop.counter * c.args.form.now.rows + c.args.form.now.rows ≡ (c.loop.counter + 1) * c.args.form.now.rows = omega arith in
    record {
      values = rw (c.in_ok-push.ensures.ok, c.loop.invariant.values, columns_from-more c.args.bytes.now c.args.start c.loop.counter c.args.form.now.rows, ← place, c.in_ok-column.ensures.values) refl;
      next = omega (arith, place, c.in_ok-column.ensures.next, more);
      pass = subst (λ n. Pass c.args.bytes.now c.args.start (replicate n value_item) c.in_ok-column.next) more (Pass-more c.args.bytes.now c.args.start c.loop.at c.in_ok-column.next (c.loop.counter * rows) rows value_item c.loop.invariant.pass c.in_ok-column.ensures.pass);
    }
