-- What a replay finds on the way.
use Rattle.std.specs.Prelude.{◌≡◌, ℕ, List, ◌++◌, Option, Some, None}
use Rattle.rv_model.specs.declared.answer.StepAnswer.{StepAnswer}
use Rattle.rv_model.specs.declared.answer.StepAnswer.TheVariants as answers
use Rattle.min_trace.specs.declared.record.MemAct.{MemAct}

-- the doubleword that was touched, 0 where none was
abbrev pub old_found : Option MemAct → ℕ
old_found None = 0
old_found (Some m) = m.old

-- the next pc, where pc is now this
abbrev pub next_told : StepAnswer → ℕ → Option ℕ
next_told answers.Next pc = Some pc
next_told answers.Halt pc = None
next_told (answers.Fault f) pc = None

-- a list begins with another
abbrev pub IsFront : List ℕ → List ℕ → Type 0
IsFront front all = (rest : List ℕ) × (all ≡ front ++ rest)
