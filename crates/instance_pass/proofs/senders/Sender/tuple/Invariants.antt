use Rattle.std.proofs.Common.{◌≡◌, take, map}
use Rattle.pil_program.specs.Blocks.{at_lane}
use Rattle.instance_pass.proofs.senders.Sender.tuple.Given as goal

abbrev pub invariant-loop-step : goal.invariant-loop-step
invariant-loop-step l = l.tuple.items ≡ map (at_lane l.blocks l.lane) (take l.step-index l.self.terms)
