use Rattle.pil_program.specs.Blocks.{at_lane}
use Rattle.instance_pass.specs.Senders.{StandsIn}
use Rattle.instance_pass.specs.Checks.{HoldsBelow}
use Rattle.instance_pass.proofs.scans.first_missing.Given as goal

abbrev pub invariant-loop-lane : goal.invariant-loop-lane
invariant-loop-lane l = HoldsBelow (λ j. StandsIn l.table l.sender (at_lane l.blocks j)) l.lane
