use Rattle.run_rows.proofs.Later.{rows_total, all_instances}
use Rattle.run_rows.proofs.Runs.{instance_named}
use Rattle.run_rows.proofs.laws.rows_of_a_run.Goals as goal

pub returns-clause-count : goal.returns-clause-count
returns-clause-count c = rows_total c.rows_are_counted.ensures

pub returns-clause-job : goal.returns-clause-job
returns-clause-job c = instance_named c.rows_are_counted.ensures c.rows_of_a_job.ensures

pub returns-clause-all : goal.returns-clause-all
returns-clause-all c = all_instances
