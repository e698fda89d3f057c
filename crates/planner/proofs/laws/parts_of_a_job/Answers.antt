use Rattle.planner.proofs.Handed.{parts_in}
use Rattle.planner.proofs.laws.parts_of_a_job.Goals as goal

pub returns : goal.returns
returns c = parts_in
