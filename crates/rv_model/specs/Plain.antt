-- The plain machine as a state.
use Rattle.std.specs.Prelude.{List, ◌≡◌, ℕ, ◌/◌, Some, None, unwrap_or}
use Rattle.std.specs.Ordering.{nat_cmp}
use Rattle.std.specs.BTreeMap.{is_at}
use Rattle.std.specs.Map.{lookup}
use Rattle.rv_word.specs.Is.{decoded}
use Rattle.rv_word.specs.declared.instr.Instr.{Instr}
use Rattle.rv_model.specs.Image.{Img, fetch, initial_word}
use Rattle.rv_model.specs.State.{State, Answer, Next, Halt, Fault}
use Rattle.rv_model.specs.Cpu.{with_memory, access}
use Rattle.rv_model.specs.declared.access.Access.{Access}
use Rattle.rv_model.specs.declared.answer.StepAnswer.{StepAnswer}
use Rattle.rv_model.specs.declared.answer.StepAnswer.TheVariants as answers
use Rattle.rv_model.specs.declared.cpu.Cpu.{Cpu}

-- the image that is run, pc and registers, and the doublewords that were written, each with its number
pub record Plain : Type 0 where
  pub image : Img
  pub cpu : Cpu
  pub words : List (ℕ × ℕ)

-- a doubleword that was written, or the image's
abbrev pub word_of : Img → List (ℕ × ℕ) → ℕ → ℕ
word_of image words k = unwrap_or (lookup (is_at (nat_cmp k)) words) (initial_word image k)

abbrev pub state_of : Plain → State
state_of m = with_memory m.cpu (word_of m.image m.words)

-- a step answered this, and led from old to new; after a halt and a fault nothing has changed
abbrev pub Leads : Answer → StepAnswer → Plain → Plain → Type 0
Leads answer answers.Next old new = (new.image ≡ old.image) × (answer ≡ Next (state_of new))
Leads answer answers.Halt old new = (new ≡ old) × (answer ≡ Halt)
Leads answer (answers.Fault fault) old new = (new ≡ old) × (answer ≡ Fault fault)

-- the doubleword of an access wasn't written yet
abbrev pub IsNew : Plain → Access → Type 0
IsNew m touch = lookup (is_at (nat_cmp (touch.address / 8))) m.words ≡ None

-- an instruction touches such a doubleword
abbrev pub TouchesNew : Plain → Instr → Type 0
TouchesNew m i = (touch : Access) × (access i (state_of m) ≡ Some touch) × IsNew m touch

-- the next instruction does
abbrev pub NextTouchesNew : Plain → Type 0
NextTouchesNew m = (w : ℕ) × (i : Instr) × (fetch m.image m.cpu.pc ≡ Some w) × (decoded w ≡ Some i) × TouchesNew m i
