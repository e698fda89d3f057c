use Rattle.std.proofs.Common.{◌+◌, ◌≡◌, [], ◌∷◌, inl, inr, Some, None, length, length-append, slice_get, sym, ◌∙◌, ap, arith}
use Rattle.bus_check.specs.declared.runs.Sides.{Sides}
use Rattle.bus_check.proofs.Run.{slice_get-push}
use Rattle.bus_check.proofs.runs.empty_sides.Goals as goal

pub loop-init : goal.loop-init
loop-init c = (
  ap length c.new-sides.ensures.items,
  λ k s is. (let e : None ≡ Some s = ap (λ xs. slice_get xs k) (sym c.new-sides.ensures.items) ∙ is in absurd (cc)),
)

pub loop-preserved : goal.loop-preserved
loop-preserved c =
    let x : Sides = record { left = c.new.result; right = c.new-in-loop.result } in (
      ap length c.in_ok-push.ensures.items ∙ length-append c.loop.sides.items (x ∷ []) ∙ ap (λ n. n + 1) c.loop.invariant.0,
      λ k s is. elim (slice_get-push c.loop.sides.items x s k (ap (λ xs. slice_get xs k) (sym c.in_ok-push.ensures.items) ∙ is)) [
        | inl (l, p) ↦ c.loop.invariant.1 k s p
        | inr (l, p) ↦ (ap (λ (y : Sides). y.left) (sym p) ∙ c.new.ensures, ap (λ (y : Sides). y.right) (sym p) ∙ c.new-in-loop.ensures)
      ],
    )

pub returns-clause-long : goal.returns-clause-long
returns-clause-long c = let past = c.loop-test.false in let end = c.loop.auto in let long = c.loop.invariant.0 in omega arith

pub returns-clause-empty : goal.returns-clause-empty
returns-clause-empty c = c.loop.invariant.1
