use Rattle.pil_meaning.proofs.Ranges.{fits}
use Rattle.pil_meaning.proofs.laws.named_fits.Goals as goal

pub returns : goal.returns
returns c = record { fits = fits }
