-- An instruction reads one doubleword at most, so that it can be done apart from the memory.
use Rattle.std.proofs.Common.{◌≡◌, ◌==◌, ℕ, ◌/◌, ◌%◌, ◌<◌, Bool, true, false, nat_lt, if◌then◌else◌, refl, ap, sym, ◌∙◌, arith}
use Rattle.std.proofs.lemmas.Bool.Decides.{nat_tests}
use Rattle.rv_word.specs.declared.instr.Kind.{Kind}
use Rattle.rv_word.specs.declared.instr.Instr.{Instr}
use Rattle.rv_word.specs.declared.instr.Instr.TheVariants.{Lui, Auipc, Jal, Jalr, Branch, Load, Store, OpImm, Op, Fence, Ecall, Ebreak}
use Rattle.rv_model.specs.Align.{width, aligned}
use Rattle.rv_model.specs.State.{Answer, Next, Halt, Fault, executed, load, store, next_with_reg, with_word}
use Rattle.rv_model.specs.Cpu.{with_memory, constant, forgot, told, Touches, memory_after}
use Rattle.rv_model.specs.declared.machine.TheConstants.{MEMORY_END}
use Rattle.rv_model.specs.declared.answer.StepAnswer.{StepAnswer}
use Rattle.rv_model.specs.declared.answer.StepAnswer.TheVariants as answers
use Rattle.rv_model.specs.declared.cpu.Cpu.{Cpu}

-- the answer with this memory
abbrev pub remembered : Answer → (ℕ → ℕ) → Answer
remembered (Next t) word = Next (record { pc = t.pc; x = t.x; word = word })
remembered Halt word = Halt
remembered (Fault f) word = Fault f

remembered-forgot : (a : Answer) (word : ℕ → ℕ) → remembered (forgot a) word ≡ remembered a word
remembered-forgot (Next t) word = refl
remembered-forgot Halt word = refl
remembered-forgot (Fault f) word = refl

remembered-told : (r : StepAnswer) (c : Cpu) (word : ℕ → ℕ) → remembered (told r c (λ _. 0)) word ≡ told r c word
remembered-told answers.Next c word = refl
remembered-told answers.Halt c word = refl
remembered-told (answers.Fault f) c word = refl

remembered-if : (b : Bool) (p q : Answer) (word : ℕ → ℕ) → remembered (if b then p else q) word ≡ (if b then remembered p word else remembered q word)
remembered-if true p q word = refl
remembered-if false p q word = refl

-- two guards: what stands under both need agree only where both hold
under_both : (b d : Bool) (p q r s : Answer) → (b ≡ true → d ≡ true → p ≡ q) → (if b then (if d then p else r) else s) ≡ (if b then (if d then q else r) else s)
under_both true true p q r s h = h refl refl
under_both true false p q r s h = refl
under_both false d p q r s h = refl

load_apart : (kind : Kind) (rd address old : ℕ) (c : Cpu) (word : ℕ → ℕ) → ((address % width kind ≡ 0) × (address < MEMORY_END) → word (address / 8) ≡ old) → load (with_memory c word) kind rd address ≡ remembered (load (constant c old) kind rd address) word
unfolding load
load_apart kind rd address old c word h =
    simp remembered-if (under_both (address % width kind == 0) (nat_lt address MEMORY_END) _ _ _ _ λ p q.
    let multiple : address % width kind ≡ 0 = grind (arith, nat_tests) in
    let below : address < MEMORY_END = grind (arith, nat_tests) in
    ap (λ n. next_with_reg (with_memory c word) rd (aligned kind (address % 8) n 0)) (h (multiple, below)))

store_apart : (kind : Kind) (address value old : ℕ) (c : Cpu) (word : ℕ → ℕ) → store (with_memory c word) kind address value ≡ remembered (store (constant c old) kind address value) (with_word word (address / 8) (aligned kind (address % 8) (word (address / 8)) value))
unfolding store
store_apart kind address value old c word = simp remembered-if

pub executed_apart : (i : Instr) (c : Cpu) (old : ℕ) (word : ℕ → ℕ) → Touches i (with_memory c word) old → executed i (with_memory c word) ≡ remembered (executed i (constant c old)) (memory_after i (with_memory c word))
executed_apart (Lui rd imm) c old word h = refl
executed_apart (Auipc rd imm) c old word h = refl
executed_apart (Jal rd imm) c old word h = simp remembered-if
executed_apart (Jalr rd rs1 imm) c old word h = simp remembered-if
executed_apart (Branch cond rs1 rs2 imm) c old word h = simp remembered-if
executed_apart (Load kind rd rs1 imm) c old word h = load_apart kind rd _ old c word h
executed_apart (Store kind rs1 rs2 imm) c old word h = store_apart kind _ _ old c word
executed_apart (OpImm op rd rs1 imm uw) c old word h = refl
executed_apart (Op op rd rs1 rs2 uw) c old word h = refl
executed_apart Fence c old word h = refl
executed_apart Ecall c old word h = simp remembered-if
executed_apart Ebreak c old word h = refl

-- what an instruction does with a constant memory tells what it does with a real one
pub executed-told : (i : Instr) (c d : Cpu) (old : ℕ) (r : StepAnswer) (word : ℕ → ℕ) → forgot (executed i (constant c old)) ≡ told r d (λ _. 0) → Touches i (with_memory c word) old → executed i (with_memory c word) ≡ told r d (memory_after i (with_memory c word))
executed-told i c d old r word known touches =
    executed_apart i c old word touches
    ∙ sym (remembered-forgot (executed i (constant c old)) (memory_after i (with_memory c word)))
    ∙ ap (λ a. remembered a (memory_after i (with_memory c word))) known
    ∙ remembered-told r d (memory_after i (with_memory c word))
