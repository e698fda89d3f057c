-- What the whole call pushed, by its answer.
use Rattle.std.specs.Prelude.{ℕ, Result, Ok, Err, List}
use Rattle.rv_model.specs.Image.{Img}
use Rattle.rv_model.specs.declared.answer.RunEnd.{RunEnd}
use Rattle.planner.specs.declared.job.Job.{Job}
use Rattle.run_tables.specs.declared.made.Made.{Made}
use Rattle.wit_pool.specs.Planned.{AreAllJobs, AreJobsBefore}

-- all jobs of a run that halted, and else those of the chunks before its end
abbrev pub Pushes : Img → ℕ → Result Made RunEnd → List Job → Type 0
Pushes image limit (Ok made) js = AreAllJobs image made.steps js
Pushes image limit (Err end) js = AreJobsBefore image limit end js
