-- The first n steps of a run, cut into chunks and counted, and the jobs that they fill.
use Rattle.std.specs.Prelude.{◌≡◌, ◌⊎◌, ℕ, ◌+◌, ◌-◌, ◌/◌, ◌%◌, ◌<◌, ◌≤◌, List, map, min, All}
use Rattle.std.specs.List.{range_with_len}
use Rattle.std.specs.Arc.{arc_value}
use Rattle.std.specs.declared.sync.Arc.{Arc}
use Rattle.std.specs.declared.alloc.Global.{Global}
use Rattle.rv_model.specs.Image.{Img}
use Rattle.rv_model.specs.Run.{RunsTo}
use Rattle.rv_model.specs.declared.answer.Public.{Public}
use Rattle.zk_layout.specs.declared.air.Air.{Air}
use Rattle.min_trace.specs.declared.chunk.TheConstants.{STEPS_PER_CHUNK}
use Rattle.min_trace.specs.declared.record.StepRecord.{StepRecord}
use Rattle.min_trace.specs.Record.{records_between, olds_between, cpu_at}
use Rattle.min_trace.specs.Chunk.{Piece, IsChunk, first_step}
use Rattle.planner.specs.declared.counts.Counts.{Counts}
use Rattle.planner.specs.declared.job.Job.{Job}
use Rattle.planner.specs.declared.job.Part.{Part}
use Rattle.planner.specs.Rows.{counted}
use Rattle.planner.specs.Jobs.{job_of, whole, job_count}

-- how many chunks n steps are, and how many of the n steps are those of chunk k
abbrev pub chunks_of : ℕ → ℕ
chunks_of n = (n + (STEPS_PER_CHUNK - 1)) / STEPS_PER_CHUNK

abbrev pub steps_in : ℕ → ℕ → ℕ
steps_in n k = min STEPS_PER_CHUNK (n - first_step k)

-- what the steps of chunk k did, and the chunk
abbrev pub records_in : Img → ℕ → ℕ → List StepRecord
records_in image n k = records_between image (first_step k) (steps_in n k)

unfoldable pub chunk_of : Img → ℕ → ℕ → Piece
chunk_of image n k = record { number = k; start = cpu_at image (first_step k); steps = steps_in n k; olds = olds_between image (first_step k) (steps_in n k) }

-- all chunks, and the counts of each
abbrev pub chunks_to : Img → ℕ → List Piece
chunks_to image n = map (chunk_of image n) (range_with_len 0 (chunks_of n))

abbrev pub counts_to : Img → ℕ → List Counts
counts_to image n = map (λ k. counted (records_in image n k)) (range_with_len 0 (chunks_of n))

-- m steps are those n, or more behind n that are whole chunks
abbrev pub Later : ℕ → ℕ → Type 0
Later n m = (n ≡ m) ⊎ ((n % STEPS_PER_CHUNK ≡ 0) × (n ≤ m))

-- shared chunks as chunks
abbrev pub values_of : List (Arc Piece Global) → List Piece
values_of chunks = map (λ c. arc_value c) chunks

-- the run halts with its n-th step
abbrev pub Halts : Img → ℕ → Type 0
Halts image n = (public : Public) × RunsTo image n public

-- instance i of the air is one to be made: the first n steps fill it, or they are the whole run and have a row of it
abbrev pub IsDue : Img → ℕ → Air → ℕ → Type 0
IsDue image n air i = (i < whole air (counts_to image n)) ⊎ (Halts image n × (i < job_count air (counts_to image n)))

-- the chunks that a job's parts name
abbrev pub named_by : Img → ℕ → Job → List Piece
named_by image n job = map (λ (p : Part). chunk_of image n p.chunk) job.parts

-- the job is one of the plan of the run, as far as its first n steps tell it, and the chunks are those that its parts name
pub record IsJobOf (image : Img) (n : ℕ) (job : Job) (chunks : List Piece) : Type 0 where
  pub planned : job ≡ job_of job.air (counts_to image n) job.instance
  pub due : IsDue image n job.air job.instance
  pub named : chunks ≡ named_by image n job
  pub each : All (IsChunk image) chunks
