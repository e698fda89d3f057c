use Rattle.std.proofs.Common.{ℕ, ◌<◌, ◌≤◌, ◌≡◌, ◌≢◌, List, [], ◌∷◌, ◌∙◌, length, get_or, sym, below_more, arith}
use Rattle.pil_ast.specs.Holds.{times}
use Rattle.pil_laws.proofs.Times.{times_somewhere}
use Rattle.bus_check.specs.Bus.{held}
use Rattle.bus_check.proofs.order.counted.Goals as goal

-- the numbers with which a list begins stand in it
standing : (xs : List (List ℕ)) (n : ℕ) → n ≤ length xs → ((v : ℕ) → v < n → get_or xs v [] ≡ v ∷ []) → (v : ℕ) → v < n → times (v ∷ []) xs ≢ 0
standing xs n l begins v b = times_somewhere (v ∷ []) xs v [] (omega arith) (begins v b)

pub loop-place-preserved : goal.loop-place-preserved
loop-place-preserved c =
    below_more (λ v. get_or (held c.args.tuples.now) v [] ≡ v ∷ []) _ c.loop-place.invariant
    (sym c.at.ensures ∙ c.is_alone.ensures.0 c.if-not-is_alone.false)

pub returns-then-not-is_alone-clause-stand : goal.returns-then-not-is_alone-clause-stand
returns-then-not-is_alone-clause-stand c =
    standing (held c.args.tuples.now) c.loop-place.place (let n = c.len-place-end.ensures in let l = c.loop-place-test.true in omega arith) c.loop-place.invariant

pub returns-clause-stand : goal.returns-clause-stand
returns-clause-stand c =
    standing (held c.args.tuples.now) c.len.result (let n = c.len.ensures in omega arith)
    (λ v b. c.loop-place.invariant v (let n = c.len-place-end.ensures in let m = c.len.ensures in let l = c.loop-place-test.false in omega arith))
