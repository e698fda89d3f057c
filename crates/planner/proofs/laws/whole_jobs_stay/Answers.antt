use Rattle.planner.proofs.Whole.{whole_up, job_more}
use Rattle.planner.proofs.laws.whole_jobs_stay.Goals as goal

pub returns-clause-count : goal.returns-clause-count
returns-clause-count c = whole_up

pub returns-clause-job : goal.returns-clause-job
returns-clause-job c = job_more
