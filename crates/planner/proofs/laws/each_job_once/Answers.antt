use Rattle.planner.proofs.Once.{handed_all}
use Rattle.planner.proofs.laws.each_job_once.Goals as goal

pub returns : goal.returns
returns c = handed_all
