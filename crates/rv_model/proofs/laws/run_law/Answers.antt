use Rattle.rv_model.proofs.Ends.{ends_once}
use Rattle.rv_model.proofs.laws.run_law.Goals as goal

pub returns : goal.returns
returns c = ends_once
