use Rattle.image_rows.proofs.Doublewords.{are_initial}
use Rattle.image_rows.proofs.laws.initial_law.Goals as goal

pub returns : goal.returns
returns c = are_initial
