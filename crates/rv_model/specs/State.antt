-- The machine: its state, and what a step does (RISC-V Unprivileged ISA, "RV32I", "RV64I"; Zba,
-- "Address generation instructions").
use Rattle.std.specs.Prelude.{◌==◌, ℕ, ◌+◌, ◌*◌, ◌/◌, ◌%◌, ◌^◌, Bool, true, false, not, nat_lt, int_lt, List, slice_index, slice_set, replicate, Option, Some, None, if◌then◌else◌}
use Rattle.rv_word.specs.declared.instr.Cond.{Cond}
use Rattle.rv_word.specs.declared.instr.Cond.TheVariants as conds
use Rattle.rv_word.specs.declared.instr.Kind.{Kind}
use Rattle.rv_word.specs.declared.instr.Instr.{Instr}
use Rattle.rv_word.specs.declared.instr.Instr.TheVariants.{Lui, Auipc, Jal, Jalr, Branch, Load, Store, OpImm, Op, Fence, Ecall, Ebreak}
use Rattle.rv_word.specs.Is.{decoded}
use Rattle.rv_model.specs.Image.{Img, fetch, initial_word}
use Rattle.rv_model.specs.Op.{value_of, signed, bits_of}
use Rattle.rv_model.specs.Align.{width, aligned}
use Rattle.rv_model.specs.declared.machine.TheConstants.{MEMORY_END, CALL_REGISTER, EXIT_CALL}
use Rattle.rv_model.specs.declared.answer.RunFault.{RunFault}
use Rattle.rv_model.specs.declared.answer.RunFault.TheVariants.{BadPc, Illegal, Break, BadCall, Misaligned, BadAddress, BadTarget}

-- pc, the 32 registers, and the doubleword with each number
pub record State : Type 0 where
  pub pc : ℕ
  pub x : List ℕ
  pub word : ℕ → ℕ

-- what a step answers
pub data Answer : Type 0 where
  Next : State → Answer
  Halt : Answer
  Fault : RunFault → Answer

-- the state before the first step
abbrev pub start : Img → State
start image = record { pc = image.entry; x = replicate 32 0; word = initial_word image }

abbrev pub wrapped : ℕ → ℕ
wrapped n = n % 2 ^ 64

abbrev pub reg : State → ℕ → ℕ
reg s r = slice_index s.x r

-- the first operand of an operation: the value of rs1, or with uw its low 32 bits
abbrev pub operand : Bool → ℕ → ℕ
operand true value = value % 2 ^ 32
operand false value = value

-- the registers with a value in rd; x0 is never written
abbrev pub with_reg : List ℕ → ℕ → ℕ → List ℕ
with_reg x rd value = if rd == 0 then x else slice_set x rd value

-- the memory with a value in one doubleword
abbrev pub with_word : (ℕ → ℕ) → ℕ → ℕ → ℕ → ℕ
with_word word index value k = if index == k then value else word k

-- on to the next instruction with nothing else changed, with a value in rd, or with a value stored
abbrev pub next : State → Answer
next s = Next (record { pc = wrapped (s.pc + 4); x = s.x; word = s.word })

abbrev pub next_with_reg : State → ℕ → ℕ → Answer
next_with_reg s rd value = Next (record { pc = wrapped (s.pc + 4); x = with_reg s.x rd value; word = s.word })

abbrev pub next_with_store : State → Kind → ℕ → ℕ → Answer
next_with_store s kind address value = Next (record {
  pc = wrapped (s.pc + 4);
  x = s.x;
  word = with_word s.word (address / 8) (aligned kind (address % 8) (s.word (address / 8)) value);
})

-- to a target, which must be a multiple of 4, with these registers
abbrev pub jump : State → List ℕ → ℕ → Answer
jump s x target = if target % 4 == 0 then Next (record { pc = target; x = x; word = s.word }) else Fault (BadTarget s.pc target)

-- whether a branch is taken
abbrev pub is_taken : Cond → ℕ → ℕ → Bool
is_taken conds.Eq a b = a == b
is_taken conds.Ne a b = not (a == b)
is_taken conds.Lt a b = int_lt (signed a) (signed b)
is_taken conds.Ge a b = not (int_lt (signed a) (signed b))
is_taken conds.Ltu a b = nat_lt a b
is_taken conds.Geu a b = not (nat_lt a b)

-- an answer where the address is a multiple of the width and in memory, else the fault
abbrev pub at_address : State → Kind → ℕ → Answer → Answer
at_address s kind address answer =
    if address % width kind == 0 then
    (if nat_lt address MEMORY_END then answer else Fault (BadAddress s.pc address))
    else Fault (Misaligned s.pc address)

unfoldable pub load : State → Kind → ℕ → ℕ → Answer
load s kind rd address = at_address s kind address (next_with_reg s rd (aligned kind (address % 8) (s.word (address / 8)) 0))

unfoldable pub store : State → Kind → ℕ → ℕ → Answer
store s kind address value = at_address s kind address (next_with_store s kind address value)

-- what an instruction does
abbrev pub executed : Instr → State → Answer
executed (Lui rd imm) s = next_with_reg s rd (bits_of imm)
executed (Auipc rd imm) s = next_with_reg s rd (wrapped (s.pc + bits_of imm))
executed (Jal rd imm) s = jump s (with_reg s.x rd (wrapped (s.pc + 4))) (wrapped (s.pc + bits_of imm))
executed (Jalr rd rs1 imm) s = jump s (with_reg s.x rd (wrapped (s.pc + 4))) (wrapped (reg s rs1 + bits_of imm) / 2 * 2)
executed (Branch cond rs1 rs2 imm) s = if is_taken cond (reg s rs1) (reg s rs2) then jump s s.x (wrapped (s.pc + bits_of imm)) else next s
executed (Load kind rd rs1 imm) s = load s kind rd (wrapped (reg s rs1 + bits_of imm))
executed (Store kind rs1 rs2 imm) s = store s kind (wrapped (reg s rs1 + bits_of imm)) (reg s rs2)
executed (OpImm op rd rs1 imm uw) s = next_with_reg s rd (value_of op (operand uw (reg s rs1)) (bits_of imm))
executed (Op op rd rs1 rs2 uw) s = next_with_reg s rd (value_of op (operand uw (reg s rs1)) (reg s rs2))
executed Fence s = next s
executed Ecall s = if reg s CALL_REGISTER == EXIT_CALL then Halt else Fault (BadCall s.pc (reg s CALL_REGISTER))
executed Ebreak s = Fault (Break s.pc)

abbrev pub executed_word : Option Instr → ℕ → State → Answer
executed_word None w s = Fault (Illegal s.pc w)
executed_word (Some i) w s = executed i s

abbrev pub executed_fetch : Option ℕ → State → Answer
executed_fetch None s = Fault (BadPc s.pc)
executed_fetch (Some w) s = executed_word (decoded w) w s

-- what one step does
unfoldable pub step : Img → State → Answer
step image s = executed_fetch (fetch image s.pc) s
