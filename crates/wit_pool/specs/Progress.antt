-- What is kept of a run, from its first chunk to its last.
use Rattle.std.specs.Prelude.{◌≡◌, ℕ, List, All}
use Rattle.std.specs.declared.sync.Arc.{Arc}
use Rattle.std.specs.declared.alloc.Global.{Global}
use Rattle.rv_model.specs.Image.{Img}
use Rattle.min_trace.specs.Chunk.{Piece, IsChunk}
use Rattle.mem_rows.specs.Kept.{KeepsTo}
use Rattle.planner.specs.Jobs.{job_of}
use Rattle.planner.specs.declared.job.Job.{Job}
use Rattle.run_rows.specs.Runs.{chunks_to, counts_to, named_by, values_of, Halts, Later, IsJobOf}
use Rattle.wit_pool.specs.declared.progress.Progress.{Progress}

-- these are the chunks of the run's first n steps
pub record HasChunks (image : Img) (n : ℕ) (chunks : List (Arc Piece Global)) : Type 0 where
  pub all : values_of chunks ≡ chunks_to image n
  pub each : All (IsChunk image) (values_of chunks)

-- the chunks are those of the run's first n steps, the plan has counted them, and the accesses are those before step n
pub record IsAt (image : Img) (n : ℕ) (p : Progress) : Type 0 where
  pub chunks : HasChunks image n p.chunks.items
  pub plan : p.plan ≡ counts_to image n
  pub accesses : KeepsTo image n p.accesses

-- the run's first n steps are all of it, or whole chunks
abbrev pub IsBorder : Img → ℕ → Type 0
IsBorder image n = (m : ℕ) → Halts image m → Later n m

-- the job is one that the run's first n steps tell, and one of the whole run's where it halts
pub record IsReady (image : Img) (n : ℕ) (job : Job) : Type 0 where
  pub named : job ≡ job_of job.air (counts_to image n) job.instance
  pub border : IsBorder image n
  pub here : IsJobOf image n job (named_by image n job)
  pub there : (m : ℕ) → Halts image m → IsJobOf image m job (named_by image m job)
