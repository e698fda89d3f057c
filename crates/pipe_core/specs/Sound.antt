-- What holds of the queue and its passes, whatever happened.
use Rattle.std.specs.Prelude.{◌≡◌, ℕ, ◌≤◌, Option, Some, None, List, [], ◌++◌, length, sum_by}
use Rattle.std.specs.List.{flat_map}
use Rattle.pipe_core.specs.Pipe.{Holding, Pipe, job_of, held_job}
use Rattle.pipe_core.specs.declared.event.JobId.{JobId}
use Rattle.pipe_core.specs.declared.event.CoreTicket.{CoreTicket}

-- the jobs among tickets, and those that a pass holds and keeps
abbrev pub jobs_among : List CoreTicket → List JobId
jobs_among ts = flat_map job_of ts

abbrev pub jobs_with : Option Holding → List JobId
jobs_with None = []
jobs_with (Some h) = held_job h.held ++ h.kept

-- both lists have each job as often: however jobs are weighed, they weigh the same
abbrev pub HaveSameJobs : List JobId → List JobId → Type 0
HaveSameJobs xs ys = (weight : JobId → ℕ) → sum_by weight xs ≡ sum_by weight ys

pub record IsSound (p : Pipe) : Type 0 where
  -- tickets leave in the order in which they came
  pub in_order : p.pushed ≡ p.popped ++ p.queued
  -- each job that was popped is held or kept by one pass
  pub each_once : HaveSameJobs (jobs_among p.popped) (flat_map jobs_with p.passes)
  pub within : length p.queued ≤ p.capacity
