use Rattle.std.proofs.Common.{◌≡◌, map, All}
use Rattle.std.specs.List.{range_with_len}
use Rattle.gold.specs.Field.{AreCanonical}
use Rattle.verdict.specs.Frames.{constants_at}
use Rattle.verdict.proofs.constants.constant_instances.Given as goal

abbrev pub invariant-loop-instance : goal.invariant-loop-instance
invariant-loop-instance l = (l.instances ≡ map (λ i. constants_at l.fixed l.space i l.rows) (range_with_len 0 l.instance)) × All AreCanonical l.instances
