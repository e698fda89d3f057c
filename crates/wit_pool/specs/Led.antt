-- What is known of the pass that leads.
use Rattle.std.specs.Prelude.{◌≡◌, ℕ, ◌≤◌, [], Result, Ok, Err, List}
use Rattle.rv_model.specs.Image.{Img}
use Rattle.rv_model.specs.Run.{end_within, EndsBy, RunsTo, Halted}
use Rattle.rv_model.specs.declared.answer.RunEnd.{RunEnd}
use Rattle.min_trace.specs.Chunk.{first_step}
use Rattle.mem_rows.specs.Rows.{mem_tables}
use Rattle.planner.specs.declared.job.Job.{Job}
use Rattle.planner.specs.Jobs.{handed}
use Rattle.run_rows.specs.Runs.{counts_to}
use Rattle.job_queue.specs.Calls.{image_of}
use Rattle.job_queue.specs.declared.queue.JobQueue.{JobQueue}
use Rattle.wit_pool.specs.declared.hands.Hands.{Hands}
use Rattle.wit_pool.specs.declared.lead.Run.{Run}
use Rattle.wit_pool.specs.declared.lead.Whole.{Whole}
use Rattle.wit_pool.specs.Planned.{AreAllJobs, AreJobsBefore}
use Rattle.wit_pool.specs.Progress.{IsAt}
use Rattle.wit_pool.specs.Serving.{IsServing, pushed_of}

-- the jobs that the run's first n steps make whole, in the order in which they become so
unfoldable pub handed_to : Img → ℕ → List Job
handed_to image n = handed [] (counts_to image n)

-- the image's run within the limit is made up to a chunk's border
pub record IsRunning (image : Img) (limit : ℕ) (r : Run) : Type 0 where
  pub same : r.emu.image ≡ image
  pub most : r.emu.limit ≡ limit
  pub within : first_step r.emu.number ≤ limit
  pub progress : IsAt image (first_step r.emu.number) r.progress

-- the run ended within the limit; these are its Mem tables, and all its jobs were pushed
pub record IsWhole (image : Img) (limit : ℕ) (w : Whole) (js : List Job) : Type 0 where
  pub ends : end_within image limit ≡ Halted w.steps w.public
  pub halts : RunsTo image w.steps w.public
  pub mem : w.mem.items ≡ mem_tables image w.steps w.public
  pub jobs : AreAllJobs image w.steps js

-- how the run ended, and which jobs were pushed
abbrev pub Leads : Img → ℕ → Result Whole RunEnd → List Job → Type 0
Leads image limit (Ok w) js = IsWhole image limit w js
Leads image limit (Err end) js = EndsBy limit (end_within image limit) end × AreJobsBefore image limit end js

-- a pass with so many shares has led
pub record HasLed (q : JobQueue) (limit n : ℕ) (answer : Result Whole RunEnd) (h : Hands) : Type 0 where
  pub serving : IsServing q n (pushed_of h) h
  pub led : Leads (image_of q) limit answer (pushed_of h)
