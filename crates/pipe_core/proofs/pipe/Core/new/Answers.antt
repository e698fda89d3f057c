use Rattle.pipe_core.proofs.Sound.{sound_from_new}
use Rattle.pipe_core.proofs.pipe.Core.new.Goals as goal

pub returns-in_err-new-clause-sound : goal.returns-in_err-new-clause-sound
returns-in_err-new-clause-sound c = sound_from_new c.args.capacity

pub returns-clause-sound : goal.returns-clause-sound
returns-clause-sound c = sound_from_new c.args.capacity
