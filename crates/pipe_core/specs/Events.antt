-- What an event answers, and what it leaves.
use Rattle.std.specs.Prelude.{◌≡◌, ℕ, ◌==◌, ◌^◌, nat_le, Bool, if◌then◌else◌, Option, Some, None, unwrap_or, Result, Ok, Err, List, [], ◌∷◌, ◌++◌, length, take, drop, slice_get, slice_set, slice_index_or}
use mathlib.Core.Bool.{not}
use Rattle.std.specs.Option.{option_map}
use Rattle.pipe_core.specs.Pipe.{Holding, Pipe, new_pass, is_gone, has_work, held_job, kept_in}
use Rattle.pipe_core.specs.declared.event.Event.{Event}
use Rattle.pipe_core.specs.declared.event.Event.TheVariants.{Push, Pop, Keep, Split, Join}
use Rattle.pipe_core.specs.declared.event.EventErr.{EventErr}
use Rattle.pipe_core.specs.declared.event.EventErr.TheVariants.{NoPass, Full, Empty, Holds, HoldsNone, LastPass, NoMemory}

-- the refusals of an event in order, each with its test
abbrev pub tests : Pipe → Event → List (Bool × EventErr)
tests p (Push n t) = (is_gone p n, NoPass n) ∷ (nat_le p.capacity (length p.queued), Full) ∷ []
tests p (Pop n) = (is_gone p n, NoPass n) ∷ (length p.queued == 0, Empty) ∷ (has_work p n, Holds n) ∷ []
tests p (Keep n) = (is_gone p n, NoPass n) ∷ (not (has_work p n), HoldsNone n) ∷ []
tests p (Split n) = (is_gone p n, NoPass n) ∷ (nat_le (2 ^ 32) (length p.passes), LastPass) ∷ []
tests p (Join into from) = (is_gone p into, NoPass into) ∷ (into == from, NoPass from) ∷ (is_gone p from, NoPass from) ∷ (has_work p from, Holds from) ∷ []

-- the first of them whose test holds
abbrev pub first_refusal : List (Bool × EventErr) → Option EventErr
first_refusal [] = None
first_refusal (t ∷ ts) = if t.0 then Some t.1 else first_refusal ts

abbrev pub refusal : Pipe → Event → Option EventErr
refusal p e = first_refusal (tests p e)

-- the passes, one of them changed
abbrev pub changed : List (Option Holding) → ℕ → (Holding → Holding) → List (Option Holding)
changed ps n f = slice_set ps n (option_map f (slice_index_or ps n None))

-- what an event leaves that isn't refused
abbrev pub after : Pipe → Event → Pipe
after p (Push n t) = record p { queued = p.queued ++ t ∷ []; pushed = p.pushed ++ t ∷ [] }
after p (Pop n) = record p { queued = drop 1 p.queued; popped = p.popped ++ take 1 p.queued; passes = changed p.passes n (λ h. record h { held = slice_get p.queued 0 }) }
after p (Keep n) = record p { passes = changed p.passes n (λ h. record { held = None; kept = h.kept ++ held_job h.held }) }
after p (Split n) = record p { passes = p.passes ++ Some new_pass ∷ [] }
after p (Join into from) = record p { passes = slice_set (changed p.passes into (λ h. record h { kept = h.kept ++ kept_in p from })) from None }

-- what an event leaves: a refused one leaves no trace
abbrev pub step : Pipe → Event → Pipe
step p e = elim (refusal p e) [ None ↦ after p e | Some r ↦ p ]

abbrev pub run : Pipe → List Event → Pipe
run p [] = p
run p (e ∷ es) = run (step p e) es

-- an event that is done wasn't refused; another changes nothing, and tells its refusal, or that memory ran out where it has none
abbrev pub IsAnswer : Pipe → Event → Result (Unit {0}) EventErr → Pipe → Type 0
IsAnswer p e (Ok u) q = (refusal p e ≡ None) × (q ≡ after p e)
IsAnswer p e (Err r) q = (r ≡ unwrap_or (refusal p e) NoMemory) × (q ≡ p)
