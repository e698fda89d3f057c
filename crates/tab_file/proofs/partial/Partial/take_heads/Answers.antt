use Rattle.std.proofs.Common.{◌≡◌, ◌≤◌, ◌+◌, ◌-◌, ◌++◌, ℕ, List, length, drop, ◌∙◌, arith}
use Rattle.std.proofs.lemmas.Result.{err_from_is_err_and}
use Rattle.std.proofs.lemmas.List.{length-drop}
use Rattle.tab_file.specs.Items.{instance_items}
use Rattle.tab_file.specs.Parts.{Fails}
use Rattle.tab_file.proofs.Values.{step_on, fail_on}
use Rattle.tab_file.proofs.partial.Partial.take_heads.Goals as goal

pub returns-in_err-done-clause-takes : goal.returns-in_err-done-clause-takes
returns-in_err-done-clause-takes c file begin n q more s =
    let r = err_from_is_err_and c.from_residual.result c.from_residual.ensures.1 in
    rw (r.1, r.2) (fail_on (Fails file begin (instance_items n q) c.in_err-done.field-0.0) file begin n q c.loop-self.self c.args.piece.now more c.loop-self.done (c.in_err-done.ensures.takes file begin n q more) (c.loop-self.invariant.takes file begin n q more s))

pub returns-then-self-before-clause-takes : goal.returns-then-self-before-clause-takes
returns-then-self-before-clause-takes c file begin n q more s =
    step_on file begin n q c.loop-self.self c.next_head.new.self c.args.piece.now more c.loop-self.done c.in_ok-done.field-0
    (c.in_ok-done.ensures.takes file begin n q more) (c.loop-self.invariant.takes file begin n q more s)

pub loop-self-preserved : goal.loop-self-preserved
loop-self-preserved c =
    let len = length-drop c.loop-self.done c.args.piece.now in
    record {
      count = omega (arith, len, c.in_ok-done.ensures.count, c.loop-self.invariant.count);
      reach = omega (arith, len, c.in_ok-done.ensures.count, c.in_ok-done.ensures.reach, c.loop-self.invariant.reach, c.loop-self.invariant.count);
      takes = λ file begin n q more s. step_on file begin n q c.loop-self.self c.next_head.new.self c.args.piece.now more c.loop-self.done c.in_ok-done.field-0
          (c.in_ok-done.ensures.takes file begin n q more) (c.loop-self.invariant.takes file begin n q more s);
    }
