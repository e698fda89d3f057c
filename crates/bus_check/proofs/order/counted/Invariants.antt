use Rattle.std.proofs.Common.{◌≡◌, ℕ, ◌<◌, [], ◌∷◌, get_or}
use Rattle.bus_check.specs.Bus.{held}
use Rattle.bus_check.proofs.order.counted.Given as goal

abbrev pub invariant-loop-place : goal.invariant-loop-place
invariant-loop-place l = (v : ℕ) → v < l.place → get_or (held l.tuples) v [] ≡ v ∷ []
