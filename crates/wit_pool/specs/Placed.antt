-- Tables in no order, and in order.
use Rattle.std.specs.Prelude.{◌≡◌, ◌==◌, ℕ, List, map, filter, sum_by}
use Rattle.gold.specs.declared.instances.Table.{Table}
use Rattle.rv_model.specs.Image.{Img}
use Rattle.zk_layout.specs.Air.{air_number}
use Rattle.zk_layout.specs.declared.air.Air.{Air}
use Rattle.planner.specs.declared.job.Job.{Job}
use Rattle.planner.specs.Jobs.{all_jobs, of_air}
use Rattle.run_rows.specs.Runs.{counts_to}
use Rattle.run_tables.specs.Sequential.{step_tables, table_for}

-- the tables of the air with this number
abbrev pub of_number : ℕ → List Table → List Table
of_number n tables = filter (λ (t : Table). n == t.air) tables

-- of each air these are all its jobs of the run's first n steps, each once, in some order
unfoldable pub HaveAllJobs : Img → ℕ → List Job → Type 0
HaveAllJobs image n js = (air : Air) (weight : Job → ℕ) → sum_by weight (of_air air js) ≡ sum_by weight (all_jobs air (counts_to image n))

-- these are the tables of all jobs, in some order
abbrev pub AreMade : Img → ℕ → List Table → Type 0
AreMade image n tables = (js : List Job) × (tables ≡ map (table_for image n) js) × HaveAllJobs image n js

-- of each air these are its tables, in order
unfoldable pub AreInOrder : Img → ℕ → List Table → Type 0
AreInOrder image n tables = (air : Air) → of_number (air_number air) tables ≡ step_tables air image n
