-- An emulator on its way along a chunk.
use Rattle.std.specs.Prelude.{◌≡◌, ◌⊎◌, ℕ, ◌+◌, ◌*◌, ◌/◌, ◌%◌, ◌<◌, ◌≤◌, ◌^◌, Bool, if◌then◌else◌, ◌++◌, [], ◌∷◌, List, Option, Some, None, unwrap_or}
use Rattle.rv_word.specs.declared.instr.Instr.{Instr}
use Rattle.rv_word.specs.declared.instr.Instr.TheVariants.{Fence}
use Rattle.rv_model.specs.Image.{Img, fetch}
use Rattle.rv_model.specs.Code.{instr_of}
use Rattle.rv_model.specs.Align.{aligned}
use Rattle.rv_model.specs.State.{State, Answer, Next, Halt, Fault, with_word}
use Rattle.rv_model.specs.Cpu.{with_memory, access, is_store, IsGood}
use Rattle.rv_model.specs.Run.{state_at, step_at, MeetsLimit}
use Rattle.rv_model.specs.declared.access.Access.{Access}
use Rattle.rv_model.specs.declared.answer.StepAnswer.{StepAnswer}
use Rattle.rv_model.specs.declared.answer.StepAnswer.TheVariants as answers
use Rattle.rv_model.specs.declared.cpu.Cpu.{Cpu}
use Rattle.mem_pages.specs.Memory.{Paged, word_of}
use Rattle.min_trace.specs.declared.chunk.TheConstants.{STEPS_PER_CHUNK}
use Rattle.min_trace.specs.Chunk.{first_step}
use Rattle.min_trace.specs.Record.{act, old_of, olds_between, cpu_at}

abbrev pub state_of : Cpu → Paged → State
state_of cpu memory = with_memory cpu (word_of memory)

-- the doubleword that an instruction touches, none where it makes no access
abbrev pub old_by : Instr → State → List ℕ
old_by i s = old_of (act (access i s) s.word)

-- the doubleword that the step at a state touches
unfoldable pub old_here : Img → State → List ℕ
old_here image s = old_by (unwrap_or (instr_of (fetch image s.pc)) Fence) s

-- an access at a good address, by an instruction that stores or not, found the doubleword old, noted it, and left this memory
pub record IsTouch (stores : Bool) (word : ℕ → ℕ) (a : Access) (old : ℕ) (written : ℕ → ℕ) (before after : List ℕ) : Type 0 where
  pub good : IsGood a
  pub here : old ≡ word (a.address / 8)
  pub memory : written ≡ (if stores then with_word word (a.address / 8) (aligned a.kind (a.address % 8) old a.value) else word)
  pub noted : after ≡ before ++ old ∷ []

-- what an instruction touches of a state: without an access, and with one at a bad address, nothing
abbrev pub IsTouched : Instr → State → Option Access → ℕ → (ℕ → ℕ) → List ℕ → List ℕ → Type 0
IsTouched i s None old written before after = (written ≡ s.word) × (after ≡ before)
IsTouched i s (Some a) old written before after =
    IsTouch (is_store i) s.word a old written before after ⊎ ((IsGood a → ⊥) × (written ≡ s.word) × (after ≡ before))

-- an answer was told and led from s to t; what it touched was noted if it leads on, and else nothing has changed
abbrev pub Leads : Answer → List ℕ → StepAnswer → State → State → List ℕ → List ℕ → Type 0
Leads answer touched answers.Next s t old new = (answer ≡ Next t) × (new ≡ old ++ touched)
Leads answer touched answers.Halt s t old new = (answer ≡ Halt) × (t ≡ s) × (new ≡ old)
Leads answer touched (answers.Fault f) s t old new = (answer ≡ Fault f) × (t ≡ s) × (new ≡ old)

-- so many steps of the run were done from step number `from` on, and all before led on too
pub record IsAfter (image : Img) (from steps : ℕ) (now : State) (noted : List ℕ) : Type 0 where
  pub on : MeetsLimit image (from + steps)
  pub state : now ≡ state_at image (from + steps)
  pub olds : noted ≡ olds_between image from steps

-- what stopped it before step number from + steps, where it was to do at most so many steps
abbrev pub Stopped : StepAnswer → Img → ℕ → ℕ → ℕ → Type 0
Stopped answers.Next image from steps most = steps ≡ most
Stopped answers.Halt image from steps most = (step_at image (from + steps) ≡ Halt) × (steps < most)
Stopped (answers.Fault f) image from steps most = (step_at image (from + steps) ≡ Fault f) × (steps < most)

-- an emulator within chunk number `number`, which began with pc and registers `first`
pub record IsEmu (image : Img) (limit number steps : ℕ) (first : Cpu) (now : State) (noted : List ℕ) : Type 0 where
  pub after : IsAfter image (first_step number) steps now noted
  pub begun : first ≡ cpu_at image (first_step number)
  pub most : steps ≤ STEPS_PER_CHUNK
  pub within : first_step number + steps ≤ limit
  pub small : limit < 2 ^ 32
