use Rattle.run_rows.proofs.Taken.{job_records, with_rows}
use Rattle.run_rows.proofs.laws.steps_of_a_job.Goals as goal

pub returns-clause-steps : goal.returns-clause-steps
returns-clause-steps c = job_records c.rows_are_counted.ensures c.rows_of_a_job.ensures

pub returns-clause-rows : goal.returns-clause-rows
returns-clause-rows c = with_rows
