use Rattle.run_rows.proofs.Later.{whole_job, last_job}
use Rattle.run_rows.proofs.laws.jobs_of_a_run.Goals as goal

pub returns-clause-whole : goal.returns-clause-whole
returns-clause-whole c = whole_job c.parts_of_a_job.ensures c.whole_jobs_stay.ensures.count c.whole_jobs_stay.ensures.job

pub returns-clause-last : goal.returns-clause-last
returns-clause-last c = last_job c.parts_of_a_job.ensures
