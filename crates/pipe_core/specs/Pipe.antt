-- The queue and its passes.
use Rattle.std.specs.Prelude.{ℕ, Bool, true, false, Option, Some, None, List, [], ◌∷◌, slice_index_or}
use Rattle.pipe_core.specs.declared.event.JobId.{JobId}
use Rattle.pipe_core.specs.declared.event.CoreTicket.{CoreTicket}
use Rattle.pipe_core.specs.declared.event.CoreTicket.TheVariants.{Work, Stop}

-- what a pass holds, and the jobs that it keeps
pub record Holding : Type 0 where
  pub held : Option CoreTicket
  pub kept : List JobId

-- the tickets that are queued, front first, those that were pushed and those that were popped, in order, and the passes by number; none where a pass is gone
pub record Pipe : Type 0 where
  pub capacity : ℕ
  pub queued : List CoreTicket
  pub pushed : List CoreTicket
  pub popped : List CoreTicket
  pub passes : List (Option Holding)

-- a pass that has just been made
abbrev pub new_pass : Holding
new_pass = record { held = None; kept = [] }

abbrev pub first_pipe : ℕ → Pipe
first_pipe capacity = record { capacity = capacity; queued = []; pushed = []; popped = []; passes = Some new_pass ∷ [] }

-- the pass with this number, if there is one
abbrev pub pass_at : Pipe → ℕ → Option Holding
pass_at p n = slice_index_or p.passes n None

abbrev pub is_none_there : Option Holding → Bool
is_none_there None = true
is_none_there (Some h) = false

abbrev pub is_gone : Pipe → ℕ → Bool
is_gone p n = is_none_there (pass_at p n)

-- the job of a ticket, if it is one of work
abbrev pub job_of : CoreTicket → List JobId
job_of (Work j) = j ∷ []
job_of Stop = []

-- the job that a pass holds, if it holds one
abbrev pub held_job : Option CoreTicket → List JobId
held_job None = []
held_job (Some t) = job_of t

abbrev pub is_work : Option CoreTicket → Bool
is_work None = false
is_work (Some (Work j)) = true
is_work (Some Stop) = false

abbrev pub holds_work : Option Holding → Bool
holds_work None = false
holds_work (Some h) = is_work h.held

abbrev pub has_work : Pipe → ℕ → Bool
has_work p n = holds_work (pass_at p n)

abbrev pub kept_by : Option Holding → List JobId
kept_by None = []
kept_by (Some h) = h.kept

abbrev pub kept_in : Pipe → ℕ → List JobId
kept_in p n = kept_by (pass_at p n)
