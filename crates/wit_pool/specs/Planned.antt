-- The jobs that a run's first steps tell.
use Rattle.std.specs.Prelude.{◌≡◌, ℕ, ◌/◌, List}
use Rattle.rv_model.specs.Image.{Img}
use Rattle.rv_model.specs.Run.{FaultsAt}
use Rattle.rv_model.specs.declared.answer.RunEnd.{RunEnd}
use Rattle.rv_model.specs.declared.answer.RunEnd.TheVariants as ends
use Rattle.zk_layout.specs.declared.air.Air.{Air}
use Rattle.min_trace.specs.Chunk.{first_step}
use Rattle.min_trace.specs.declared.chunk.TheConstants.{STEPS_PER_CHUNK}
use Rattle.planner.specs.declared.job.Job.{Job}
use Rattle.planner.specs.Jobs.{jobs, whole, all_jobs, of_air}
use Rattle.run_rows.specs.Runs.{counts_to}

-- of each air they are its jobs, each once: those that the steps fill, or all of a whole run
unfoldable pub AreWholeJobs : Img → ℕ → List Job → Type 0
AreWholeJobs image n js = (air : Air) → of_air air js ≡ jobs air (counts_to image n) 0 (whole air (counts_to image n))

unfoldable pub AreAllJobs : Img → ℕ → List Job → Type 0
AreAllJobs image n js = (air : Air) → of_air air js ≡ all_jobs air (counts_to image n)

-- the first step of the chunk that has the step
abbrev pub chunk_start : ℕ → ℕ
chunk_start step = first_step (step / STEPS_PER_CHUNK)

-- they are the jobs of the chunks before the run's end, where it is a fault or the limit
abbrev pub AreJobsBefore : Img → ℕ → RunEnd → List Job → Type 0
AreJobsBefore image limit (ends.Fault fault) js = (step : ℕ) × FaultsAt image step fault × AreWholeJobs image (chunk_start step) js
AreJobsBefore image limit (ends.StepLimit most) js = AreWholeJobs image (chunk_start limit) js
AreJobsBefore image limit ends.NoMemory js = Unit {0}
