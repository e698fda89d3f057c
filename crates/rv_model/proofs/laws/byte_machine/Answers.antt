use Rattle.std.proofs.lemmas.Option.{IfSome_then}
use Rattle.rv_model.proofs.ByteSteps.{step_by_bytes}
use Rattle.rv_model.proofs.laws.byte_machine.Goals as goal

pub returns : goal.returns
returns c = step_by_bytes (λ w. IfSome_then _ (c.decoding_law.ensures.found w) (c.decoding_law.ensures.range w))
