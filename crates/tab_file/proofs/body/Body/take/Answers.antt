use Rattle.std.proofs.Common.{◌≡◌, ◌≤◌, ◌<◌, ◌+◌, ◌-◌, ◌++◌, ℕ, Bool, List, length, drop, take, sym, ap, subst, ◌∙◌, arith}
use Rattle.std.proofs.lemmas.Result.{err_from_is_err_and}
use Rattle.std.proofs.lemmas.List.{length-append, length-drop}
use Rattle.tab_file.specs.declared.fault.TabErr.{TabErr}
use Rattle.tab_file.specs.declared.fault.TabKind.TheVariants.{Trailing}
use Rattle.tab_file.specs.Items.{failure}
use Rattle.tab_file.specs.Parts.{BodyAt, BodyFails}
use Rattle.tab_file.proofs.Values.{rest_of}
use Rattle.tab_file.proofs.Bodies.{body_trails}
use Rattle.tab_file.proofs.body.Body.take.Goals as goal

pub returns-in_err-count-clause-takes : goal.returns-in_err-count-clause-takes
returns-in_err-count-clause-takes c file n start ps before more s =
    let r = err_from_is_err_and c.from_residual.result c.from_residual.ensures.1 in
    let here = c.loop-self.invariant.takes file n start ps before more s in
    rw (r.1, r.2) (c.in_err-count.ensures.takes file n start ps before more (subst (λ (xs : List ℕ). BodyAt file n start ps (before ++ c.loop-self.tables) (xs ++ more) c.loop-self.self) (sym (rest_of c.args.piece.now c.loop-self.done)) here))

pub returns-then-done-piece-clause-takes : goal.returns-then-done-piece-clause-takes
returns-then-done-piece-clause-takes c file n start ps before more s =
    let rest = drop c.loop-self.done c.args.piece.now ++ more in
    let some : 0 < length (drop c.loop-self.done c.args.piece.now ++ more) = omega (arith, c.if-done-piece.true, length-append (drop c.loop-self.done c.args.piece.now) more, length-drop c.loop-self.done c.args.piece.now) in
    subst (λ (m : ℕ). BodyFails file n start ps (failure Trailing m)) (sym c.at.ensures)
    (body_trails file n start ps (before ++ c.loop-self.tables) rest c.loop-self.self c.loop-self-test.false some (c.loop-self.invariant.takes file n start ps before more s))
