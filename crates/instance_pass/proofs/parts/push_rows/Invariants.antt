use Rattle.std.proofs.Common.{◌≡◌, ◌++◌, flat_map}
use Rattle.std.specs.List.{range_with_len}
use Rattle.pil_program.specs.Blocks.{at_lane}
use Rattle.instance_pass.specs.Senders.{sent_by}
use Rattle.instance_pass.proofs.parts.push_rows.Given as goal

abbrev pub invariant-loop-lane : goal.invariant-loop-lane
invariant-loop-lane l = l.tuples ≡ l.initial.tuples ++ flat_map (λ j. sent_by (at_lane l.blocks j) l.sender) (range_with_len 0 l.lane)
