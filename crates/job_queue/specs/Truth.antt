-- What the queue's rule says of each ticket.
use Rattle.std.specs.Prelude.{ℕ, List}
use Rattle.rv_model.specs.Image.{Img}
use Rattle.min_trace.specs.Chunk.{Piece}
use Rattle.planner.specs.declared.job.Job.{Job}
use Rattle.run_rows.specs.Runs.{Halts, IsJobOf, values_of}
use Rattle.job_queue.specs.declared.ticket.Ticket.{Ticket}
use Rattle.job_queue.specs.declared.ticket.Ticket.TheVariants.{Work, Stop}

-- a job of the plan of the image's run, with the chunks of that run that the job's parts name: as some first steps of the run
-- tell it, and as all of them do where the run halts
pub record IsTrueJob (image : Img) (job : Job) (chunks : List Piece) : Type 0 where
  pub some : (n : ℕ) × IsJobOf image n job chunks
  pub whole : (n : ℕ) → Halts image n → IsJobOf image n job chunks

-- work is such a job
unfoldable pub IsTrueOf : Img → Ticket → Type 0
IsTrueOf image (Work job chunks) = IsTrueJob image job (values_of chunks)
IsTrueOf image Stop = Unit {0}
