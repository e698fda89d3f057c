use Rattle.pil_meaning.proofs.Places.{reading}
use Rattle.pil_meaning.proofs.laws.meaning_is_reading.Goals as goal

pub returns : goal.returns
returns c = record { reading = reading }
