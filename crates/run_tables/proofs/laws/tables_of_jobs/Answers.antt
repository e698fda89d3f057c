use Rattle.run_tables.proofs.Jobs.{tables_all, tables_handed, jobs_handed}
use Rattle.run_tables.proofs.laws.tables_of_jobs.Goals as goal

pub returns-clause-all : goal.returns-clause-all
returns-clause-all c = tables_all c.rows_of_a_run.ensures.count

pub returns-clause-handed : goal.returns-clause-handed
returns-clause-handed c = tables_handed c.rows_of_a_run.ensures.count c.each_job_once.ensures

pub returns-clause-jobs : goal.returns-clause-jobs
returns-clause-jobs c = jobs_handed c.each_job_once.ensures
