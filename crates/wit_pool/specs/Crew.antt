-- The threads of a call.
use Rattle.std.specs.Prelude.{ℕ, ◌+◌, ◌≤◌, [], All, vec_len}
use Rattle.min_trace.specs.Chunk.{first_step}
use Rattle.job_queue.specs.Calls.{image_of}
use Rattle.job_queue.specs.declared.queue.JobQueue.{JobQueue}
use Rattle.wit_pool.specs.declared.crew.Crew.{Crew}
use Rattle.wit_pool.specs.declared.hands.Hands.{Hands}
use Rattle.wit_pool.specs.declared.lead.Run.{Run}
use Rattle.wit_pool.specs.Led.{IsRunning, handed_to}
use Rattle.wit_pool.specs.Serving.{IsServing, shares_of}

-- a worker's pass has one share, and pushed nothing
abbrev pub IsWorker : JobQueue → Hands → Type 0
IsWorker q h = IsServing q 1 [] h

-- the shares of a call that its threads have, besides those that were started
abbrev pub crew_shares : Crew → ℕ
crew_shares crew = shares_of crew.mine + vec_len crew.waiting

-- the run is made up to a chunk's border, the caller's pass pushed the jobs that are whole there, and each worker that waits has
-- a pass of its own
pub record IsCrew (q : JobQueue) (run : Run) (crew : Crew) : Type 0 where
  pub running : IsRunning (image_of q) run.emu.limit run
  pub mine : IsServing q (shares_of crew.mine) (handed_to (image_of q) (first_step run.emu.number)) crew.mine
  pub waiting : All (IsWorker q) crew.waiting.items
  pub few : vec_len crew.waiting + crew.started ≤ 64
