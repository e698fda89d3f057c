use Rattle.std.proofs.Common.{flat_map}
use Rattle.std.specs.List.{range_with_len}
use Rattle.pil_program.specs.Blocks.{at_lane}
use Rattle.instance_pass.specs.Senders.{sent_by}
use Rattle.instance_pass.specs.Parts.{Takes}
use Rattle.instance_pass.specs.Passes.{AtFirst}
use Rattle.instance_pass.proofs.passes.take_parts.Given as goal

abbrev pub invariant-loop-number : goal.invariant-loop-number
invariant-loop-number l =
    AtFirst (λ p q. Takes l.space (flat_map (λ j. sent_by (at_lane l.blocks j) p.sender) (range_with_len 0 l.count)) p q) l.number l.fn.parts l.parts
