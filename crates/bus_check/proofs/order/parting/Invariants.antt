use Rattle.std.proofs.Common.{◌≡◌, ℕ, ◌<◌, get_or, List}
use Rattle.bus_check.specs.Bus.{held}
use Rattle.bus_check.proofs.order.parting.Given as goal

abbrev pub invariant-loop-place : goal.invariant-loop-place
invariant-loop-place l = (k : ℕ) (d : List ℕ) → k < l.place → get_or (held l.left) k d ≡ get_or (held l.right) k d
