-- What the emulator answers.
use Rattle.std.specs.Prelude.{◌≡◌, ℕ, ◌+◌, ◌*◌, ◌<◌, ◌≤◌, ◌⊎◌, Result, Ok, Err}
use Rattle.rv_model.specs.Image.{Img}
use Rattle.rv_model.specs.Run.{RunsTo, FaultsAt, MeetsLimit, End, Halted, Faulted, Limited}
use Rattle.rv_model.specs.declared.answer.Public.{Public}
use Rattle.rv_model.specs.declared.answer.RunFault.{RunFault}
use Rattle.rv_model.specs.declared.answer.RunEnd.{RunEnd}
use Rattle.rv_model.specs.declared.answer.RunEnd.TheVariants as ends
use Rattle.min_trace.specs.declared.chunk.TheConstants.{STEPS_PER_CHUNK}
use Rattle.min_trace.specs.Chunk.{Piece, IsChunk, first_step}
use Rattle.rv_emu.specs.declared.emu.Step.{Step}
use Rattle.rv_emu.specs.declared.emu.Step.TheVariants as steps

-- an emulator: what it runs, for how many steps at most, and which chunk it is asked for next
pub record Place : Type 0 where
  pub image : Img
  pub limit : ℕ
  pub number : ℕ

-- the chunk asked for, within the limit, all of whose steps lead on
pub record IsWhole (p : Place) (c : Piece) : Type 0 where
  pub chunk : IsChunk p.image c
  pub number : c.number ≡ p.number
  pub steps : c.steps ≡ STEPS_PER_CHUNK
  pub on : MeetsLimit p.image (first_step (p.number + 1))
  pub within : first_step (p.number + 1) ≤ p.limit

-- the chunk asked for, within the limit, whose last step halts
pub record IsLast (p : Place) (c : Piece) (public : Public) : Type 0 where
  pub chunk : IsChunk p.image c
  pub number : c.number ≡ p.number
  pub halts : RunsTo p.image (first_step p.number + c.steps) public
  pub within : first_step p.number + c.steps ≤ p.limit

-- the run faults at a step of the chunk asked for, below the limit
pub record FaultsIn (p : Place) (fault : RunFault) : Type 0 where
  pub step : ℕ
  pub low : first_step p.number ≤ step
  pub high : step < first_step (p.number + 1)
  pub within : step < p.limit
  pub faults : FaultsAt p.image step fault

-- the step whose number is the limit lies in or before the chunk asked for, and all before it lead on
pub record IsUsedUp (p : Place) : Type 0 where
  pub high : p.limit < first_step (p.number + 1)
  pub on : MeetsLimit p.image p.limit

-- an answer of the emulator, before and after; it goes on to the next chunk after a chunk that leads on
abbrev pub Answered : Result Step RunEnd → Place → Place → Type 0
Answered (Ok (steps.Chunk c)) old new = IsWhole old c × (new ≡ record { image = old.image; limit = old.limit; number = old.number + 1 })
Answered (Ok (steps.Last c public)) old new = IsLast old c public × (new ≡ old)
Answered (Err (ends.Fault fault)) old new = FaultsIn old fault × (new ≡ old)
Answered (Err (ends.StepLimit most)) old new = (most ≡ old.limit) × IsUsedUp old × (new ≡ old)
Answered (Err ends.NoMemory) old new = new ≡ old

-- the run's end, where an answer tells it
abbrev pub EndsBy : Result Step RunEnd → ℕ → End → Type 0
EndsBy (Ok (steps.Chunk c)) limit end = Unit {0}
EndsBy (Ok (steps.Last c public)) limit end = end ≡ Halted (first_step c.number + c.steps) public
EndsBy (Err (ends.Fault fault)) limit end = end ≡ Faulted fault
EndsBy (Err (ends.StepLimit most)) limit end = (most ≡ limit) × (end ≡ Limited)
EndsBy (Err ends.NoMemory) limit end = Unit {0}

-- two answers at one place are the same, but for want of memory
abbrev pub IsOnly : Place → Place → Place → Result Step RunEnd → Result Step RunEnd → Type 0
IsOnly p q r a b = Answered a p q → Answered b p r → ((a ≡ b) × (q ≡ r)) ⊎ ((a ≡ Err ends.NoMemory) ⊎ (b ≡ Err ends.NoMemory))
