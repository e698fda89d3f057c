use Rattle.pipe_core.proofs.Sound.{sound_answer}
use Rattle.pipe_core.proofs.pipe.Core.apply.Goals as goal

pub invariant_of-self : goal.invariant_of-self
invariant_of-self c = sound_answer _ _ _ _ c.apply.ensures c.self.invariant
