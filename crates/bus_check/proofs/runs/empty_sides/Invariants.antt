use Rattle.std.proofs.Common.{ℕ, ◌≡◌, [], Some, length, slice_get}
use Rattle.bus_check.specs.declared.runs.Sides.{Sides}
use Rattle.bus_check.proofs.runs.empty_sides.Given as goal

abbrev pub invariant-loop : goal.invariant-loop
invariant-loop l =
    (length l.sides.items ≡ l.counter) × ((k : ℕ) (s : Sides) → slice_get l.sides.items k ≡ Some s → (s.left ≡ []) × (s.right ≡ []))
