use Rattle.pil_syntax.proofs.Placeless.{placeless}
use Rattle.pil_syntax.proofs.laws.moved_tokens.Goals as goal

pub returns : goal.returns
returns c = record { placeless = placeless }
