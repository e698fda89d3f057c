use Rattle.std.proofs.Common.{◌≡◌, slice_index}
use Rattle.instance_pass.specs.Checks.{HoldsBelow}
use Rattle.instance_pass.proofs.scans.first_unequal.Given as goal

abbrev pub invariant-loop-lane : goal.invariant-loop-lane
invariant-loop-lane l = HoldsBelow (λ j. slice_index l.a.values j ≡ slice_index l.b.values j) l.lane
