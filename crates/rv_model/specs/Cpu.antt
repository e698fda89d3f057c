-- pc and registers apart from the memory, and the one doubleword that an instruction touches.
use Rattle.std.specs.Prelude.{◌≡◌, ℕ, ◌+◌, ◌/◌, ◌%◌, ◌<◌, Bool, true, false, Option, Some, None, IfSome}
use Rattle.rv_word.specs.declared.instr.Instr.{Instr}
use Rattle.rv_word.specs.declared.instr.Instr.TheVariants.{Load, Store}
use Rattle.rv_model.specs.Op.{bits_of}
use Rattle.rv_model.specs.Align.{width, aligned}
use Rattle.rv_model.specs.State.{State, Answer, Next, Halt, Fault, wrapped, reg, with_word}
use Rattle.rv_model.specs.declared.machine.TheConstants.{MEMORY_END}
use Rattle.rv_model.specs.declared.access.Access.{Access}
use Rattle.rv_model.specs.declared.answer.StepAnswer.{StepAnswer}
use Rattle.rv_model.specs.declared.answer.StepAnswer.TheVariants as answers
use Rattle.rv_model.specs.declared.cpu.Cpu.{Cpu}

abbrev pub cpu_of : State → Cpu
cpu_of s = record { pc = s.pc; x = s.x }

abbrev pub with_memory : Cpu → (ℕ → ℕ) → State
with_memory c word = record { pc = c.pc; x = c.x; word = word }

-- the access of a load or a store: its kind, its address, and the value that a store puts
abbrev pub access : Instr → State → Option Access
access (Load kind rd rs1 imm) s = Some (record { kind = kind; address = wrapped (reg s rs1 + bits_of imm); value = 0 })
access (Store kind rs1 rs2 imm) s = Some (record { kind = kind; address = wrapped (reg s rs1 + bits_of imm); value = reg s rs2 })
access _ s = None

-- whether the instruction is a store
abbrev pub is_store : Instr → Bool
is_store (Store kind rs1 rs2 imm) = true
is_store _ = false

-- the address is a multiple of the width and in memory
abbrev pub IsGood : Access → Type 0
IsGood a = (a.address % width a.kind ≡ 0) × (a.address < MEMORY_END)

-- old is the doubleword that the instruction touches, if it touches one
abbrev pub Touches : Instr → State → ℕ → Type 0
Touches i s old = IfSome (access i s) (λ a. IsGood a → s.word (a.address / 8) ≡ old)

-- the memory after an instruction that leads on: a store changes one doubleword
abbrev pub memory_after : Instr → State → ℕ → ℕ
memory_after (Store kind rs1 rs2 imm) s =
    let address = wrapped (reg s rs1 + bits_of imm) in with_word s.word (address / 8) (aligned kind (address % 8) (s.word (address / 8)) (reg s rs2))
memory_after _ s = s.word

-- the answer of a machine that left this pc, these registers and this memory
abbrev pub told : StepAnswer → Cpu → (ℕ → ℕ) → Answer
told answers.Next c word = Next (with_memory c word)
told answers.Halt c word = Halt
told (answers.Fault f) c word = Fault f

-- a halt and a fault leave pc and registers as they were
abbrev pub KeepsUnlessNext : StepAnswer → Cpu → Cpu → Type 0
KeepsUnlessNext answers.Next old new = Unit {0}
KeepsUnlessNext answers.Halt old new = new ≡ old
KeepsUnlessNext (answers.Fault f) old new = new ≡ old

-- a state whose every doubleword is the same, and an answer without its memory
abbrev pub constant : Cpu → ℕ → State
constant c old = with_memory c (λ _. old)

abbrev pub forgot : Answer → Answer
forgot (Next t) = Next (record { pc = t.pc; x = t.x; word = λ _. 0 })
forgot Halt = Halt
forgot (Fault f) = Fault f
