-- Whole runs: the states by the number of the step, and how a run ends.
use Rattle.std.specs.Prelude.{◌≡◌, ℕ, zero, suc, ◌+◌, ◌-◌, ◌<◌, ◌≤◌, List, Result, Ok, Err}
use Rattle.std.specs.List.{flat_map, range_with_len}
use Rattle.std.specs.Int.{to_le_bytes, w64}
use Rattle.rv_model.specs.Image.{Img}
use Rattle.rv_model.specs.State.{State, Answer, Next, Halt, Fault, step, start, reg}
use Rattle.rv_model.specs.declared.machine.TheConstants.{OUTPUT_INDEX, OUTPUT_WORDS, EXIT_REGISTER}
use Rattle.rv_model.specs.declared.answer.RunFault.{RunFault}
use Rattle.rv_model.specs.declared.answer.Public.{Public}
use Rattle.rv_model.specs.declared.answer.RunEnd.{RunEnd}
use Rattle.rv_model.specs.declared.answer.RunEnd.TheVariants as ends
use Rattle.rv_model.specs.declared.answer.Ran.{Ran}

-- where an answer leads; a halt and a fault stay
abbrev pub moved : State → Answer → State
moved s (Next t) = t
moved s Halt = s
moved s (Fault f) = s

-- state j of the run
unfoldable pub state_at : Img → ℕ → State
state_at image zero = start image
state_at image (suc j) = moved (state_at image j) (step image (state_at image j))

-- what step j of the run answers
abbrev pub step_at : Img → ℕ → Answer
step_at image j = step image (state_at image j)

abbrev pub IsNext : Answer → Type 0
IsNext (Next t) = Unit {0}
IsNext Halt = ⊥
IsNext (Fault f) = ⊥

abbrev pub IsHalt : Answer → Type 0
IsHalt (Next t) = ⊥
IsHalt Halt = Unit {0}
IsHalt (Fault f) = ⊥

-- the bytes of the first n doublewords of the output window
unfoldable pub window : (ℕ → ℕ) → ℕ → List ℕ
window word n = flat_map (λ k. to_le_bytes w64 (word k)) (range_with_len OUTPUT_INDEX n)

-- x10 and the output window
abbrev pub public_of : State → Public
public_of s = record { exit = reg s EXIT_REGISTER; output = window s.word OUTPUT_WORDS }

-- the run halts with its n-th step
pub record RunsTo (image : Img) (n : ℕ) (public : Public) : Type 0 where
  pub some : 0 < n
  pub on : (j : ℕ) → j + 1 < n → IsNext (step_at image j)
  pub halt : step_at image (n - 1) ≡ Halt
  pub told : public ≡ public_of (state_at image (n - 1))

-- the first step that isn't Next is step j, and it is this fault
pub record FaultsAt (image : Img) (j : ℕ) (fault : RunFault) : Type 0 where
  pub on : (k : ℕ) → k < j → IsNext (step_at image k)
  pub is : step_at image j ≡ Fault fault

abbrev pub FaultsWithin : Img → ℕ → RunFault → Type 0
FaultsWithin image limit fault = (j : ℕ) × (j < limit) × FaultsAt image j fault

-- each of the first steps leads on
abbrev pub MeetsLimit : Img → ℕ → Type 0
MeetsLimit image limit = (j : ℕ) → j < limit → IsNext (step_at image j)

-- how a run ends within a limit of steps
pub data End : Type 0 where
  Halted : ℕ → Public → End
  Faulted : RunFault → End
  Limited : End

abbrev pub IsEnd : Img → ℕ → End → Type 0
IsEnd image limit (Halted n public) = (n ≤ limit) × RunsTo image n public
IsEnd image limit (Faulted fault) = FaultsWithin image limit fault
IsEnd image limit Limited = MeetsLimit image limit

-- the end after one more step, number j, from state s: only what has not ended goes on
abbrev pub end_by : ℕ → State → Answer → End
end_by j s (Next t) = Limited
end_by j s Halt = Halted (j + 1) (public_of s)
end_by j s (Fault fault) = Faulted fault

abbrev pub or_end : End → End → End
or_end (Halted n public) more = Halted n public
or_end (Faulted fault) more = Faulted fault
or_end Limited more = more

-- the end within a limit
unfoldable pub end_within : Img → ℕ → End
end_within image zero = Limited
end_within image (suc limit) = or_end (end_within image limit) (end_by limit (state_at image limit) (step_at image limit))

-- of the three ends exactly one is the run's, and it is `end_within`
pub record EndsOnce (image : Img) (limit : ℕ) : Type 0 where
  pub is : IsEnd image limit (end_within image limit)
  pub only : (end : End) → IsEnd image limit end → end ≡ end_within image limit

-- a whole run answered this, where it takes at most limit steps and ends so
abbrev pub EndsBy : ℕ → End → RunEnd → Type 0
EndsBy limit end (ends.Fault fault) = end ≡ Faulted fault
EndsBy limit end (ends.StepLimit most) = (most ≡ limit) × (end ≡ Limited)
EndsBy limit end ends.NoMemory = Unit {0}

abbrev pub Answers : ℕ → End → Result Ran RunEnd → Type 0
Answers limit end (Ok ran) = end ≡ Halted ran.steps ran.public
Answers limit end (Err e) = EndsBy limit end e
