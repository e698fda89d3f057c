use Rattle.pil_meaning.proofs.Closing.{closed}
use Rattle.pil_meaning.proofs.laws.named_is_closed.Goals as goal

pub returns : goal.returns
returns c = record { closed = closed }
