-- What is kept of a run, from its first chunk to its last.
use Rattle.std.specs.Prelude.{◌≡◌, ℕ, ◌++◌, [], All}
use Rattle.rv_model.specs.Image.{Img}
use Rattle.min_trace.specs.Chunk.{IsChunk}
use Rattle.planner.specs.Jobs.{handed, finished}
use Rattle.run_rows.specs.Runs.{chunks_to, counts_to, values_of, Halts}
use Rattle.mem_rows.specs.Kept.{KeepsTo}
use Rattle.row_bench.specs.declared.progress.Progress.{Progress}
use Rattle.row_bench.specs.declared.whole.Whole.{Whole}

-- the chunks are those of the run's first n steps, the plan has counted them, the jobs are those that they make whole, and the
-- accesses are those before step n
pub record IsAt (image : Img) (n : ℕ) (p : Progress) : Type 0 where
  pub chunks : values_of p.chunks.items ≡ chunks_to image n
  pub each : All (IsChunk image) (values_of p.chunks.items)
  pub plan : p.plan ≡ counts_to image n
  pub jobs : p.jobs.items ≡ handed [] p.plan
  pub accesses : KeepsTo image n p.accesses

-- the run halts with its last step, the chunks are all its chunks and the jobs all its jobs
pub record IsWhole (image : Img) (w : Whole) : Type 0 where
  pub halts : Halts image w.steps
  pub chunks : values_of w.chunks.items ≡ chunks_to image w.steps
  pub each : All (IsChunk image) (values_of w.chunks.items)
  pub jobs : w.jobs.items ≡ handed [] (counts_to image w.steps) ++ finished (counts_to image w.steps)
