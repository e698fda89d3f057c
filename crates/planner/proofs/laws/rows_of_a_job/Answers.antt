use Rattle.planner.proofs.Chosen.{job_rows}
use Rattle.planner.proofs.laws.rows_of_a_job.Goals as goal

pub returns : goal.returns
returns g c = λ rows air counts i h. job_rows air rows counts i h
