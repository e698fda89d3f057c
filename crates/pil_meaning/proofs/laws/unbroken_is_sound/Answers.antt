use Rattle.pil_meaning.proofs.Whole.{sound}
use Rattle.pil_meaning.proofs.laws.unbroken_is_sound.Goals as goal

pub returns : goal.returns
returns c = record { sound = sound }
