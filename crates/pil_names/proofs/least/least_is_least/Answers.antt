use Rattle.pil_names.proofs.Lowest.{is_least}
use Rattle.pil_names.proofs.least.least_is_least.Goals as goal

pub returns : goal.returns
returns c = record { least = is_least }
