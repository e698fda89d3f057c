use Rattle.planner.proofs.Once.{handed_whole}
use Rattle.planner.proofs.laws.each_whole_job_once.Goals as goal

pub returns : goal.returns
returns c = handed_whole
