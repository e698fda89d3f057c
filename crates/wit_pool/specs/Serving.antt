-- What holds of a thread's pass and of the tables that it keeps.
use Rattle.std.specs.Prelude.{◌≡◌, ℕ, false, List, map}
use Rattle.crossbeam_queue.specs.Passes.{view}
use Rattle.gold.specs.declared.instances.Table.{Table}
use Rattle.rv_model.specs.Image.{Img}
use Rattle.planner.specs.declared.job.Job.{Job}
use Rattle.run_rows.specs.Runs.{Halts}
use Rattle.run_tables.specs.Sequential.{table_for}
use Rattle.job_queue.specs.declared.queue.JobQueue.{JobQueue}
use Rattle.job_queue.specs.declared.ticket.Ticket.{Ticket}
use Rattle.job_queue.specs.Calls.{IsOf, image_of}
use Rattle.wit_pool.specs.Jobs.{jobs_of}
use Rattle.wit_pool.specs.declared.hands.Hands.{Hands}

-- these are, in order, the tables of the tickets' jobs in a run that halts
unfoldable pub AreTables : Img → List Ticket → List Table → Type 0
AreTables image ts tables = (n : ℕ) → Halts image n → tables ≡ map (table_for image n) (jobs_of ts)

-- the pass is one of the queue, it has so many shares and pushed these jobs; beside it stand the tables of what it took, unless
-- memory ran out
pub record IsServing (q : JobQueue) (n : ℕ) (js : List Job) (h : Hands) : Type 0 where
  pub of : IsOf q h.pass
  pub shares : (view h.pass).shares ≡ n
  pub pushed : jobs_of (view h.pass).pushed ≡ js
  pub made : h.short ≡ false → AreTables (image_of q) (view h.pass).taken h.done.items

abbrev pub shares_of : Hands → ℕ
shares_of h = (view h.pass).shares

-- the jobs that the pass pushed
abbrev pub pushed_of : Hands → List Job
pushed_of h = jobs_of (view h.pass).pushed

abbrev pub Serves : JobQueue → Hands → Type 0
Serves q h = IsServing q (shares_of h) (pushed_of h) h
