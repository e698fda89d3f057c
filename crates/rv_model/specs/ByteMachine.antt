-- The machine with a byte of memory at each address (RISC-V Unprivileged ISA, "Memory" and "Load and Store
-- Instructions"). What an instruction other than a load or a store does to pc and registers is `executed`.
use Rattle.std.specs.Prelude.{◌==◌, ◌&&◌, ℕ, zero, suc, ◌+◌, ◌-◌, ◌*◌, ◌%◌, ◌<◌, ◌^◌, List, nat_le, nat_lt, slice_index, Option, Some, None, if◌then◌else◌}
use Rattle.std.specs.Int.{cast_signed, cast_unsigned, w8, w16, w32, w64}
use Rattle.rv_word.specs.declared.instr.Kind.{Kind}
use Rattle.rv_word.specs.declared.instr.Kind.TheVariants.{Lb, Lh, Lw}
use Rattle.rv_word.specs.declared.instr.Instr.{Instr}
use Rattle.rv_word.specs.declared.instr.Instr.TheVariants.{Load, Store}
use Rattle.rv_model.specs.Image.{Img, fetch}
use Rattle.rv_word.specs.Is.{decoded}
use Rattle.rv_model.specs.Op.{bits_of}
use Rattle.rv_model.specs.Align.{width, bytes}
use Rattle.rv_model.specs.Bytes.{byte_at}
use Rattle.rv_model.specs.State.{State, Answer, wrapped, with_reg, executed}
use Rattle.rv_model.specs.State as words
use Rattle.rv_model.specs.declared.machine.TheConstants.{MEMORY_END}
use Rattle.rv_model.specs.declared.answer.RunFault.{RunFault}
use Rattle.rv_model.specs.declared.answer.RunFault.TheVariants.{BadPc, Illegal, Misaligned, BadAddress}

-- pc, the 32 registers, and the byte at each address
pub record ByteState : Type 0 where
  pub pc : ℕ
  pub x : List ℕ
  pub byte : ℕ → ℕ

-- what a step answers
pub data ByteAnswer : Type 0 where
  Next : ByteState → ByteAnswer
  Halt : ByteAnswer
  Fault : RunFault → ByteAnswer

-- the number that the n bytes from the address on make, the lowest first
abbrev pub number_at : ℕ → (ℕ → ℕ) → ℕ → ℕ
number_at zero byte a = 0
number_at (suc n) byte a = byte a + 256 * number_at n byte (a + 1)

-- what is loaded, as 64 bits: LB, LH and LW fill up with the sign, the others with zeros
abbrev pub extended : Kind → ℕ → ℕ
extended Lb n = cast_unsigned w64 (cast_signed w8 n)
extended Lh n = cast_unsigned w64 (cast_signed w16 n)
extended Lw n = cast_unsigned w64 (cast_signed w32 n)
extended _ n = n

-- the memory with the lowest n bytes of the value from the address on
abbrev pub with_bytes : ℕ → ℕ → ℕ → (ℕ → ℕ) → ℕ → ℕ
with_bytes n address value byte a = if nat_le address a && nat_lt a (address + n) then slice_index (bytes value) (a - address) else byte a

-- an answer where the address is a multiple of the width and in memory, else the fault
abbrev pub at_address : ByteState → Kind → ℕ → ByteAnswer → ByteAnswer
at_address s kind address answer =
    if address % width kind == 0 then
    (if nat_lt address MEMORY_END then answer else Fault (BadAddress s.pc address))
    else Fault (Misaligned s.pc address)

abbrev pub load : ByteState → Kind → ℕ → ℕ → ByteAnswer
load s kind rd address =
    at_address s kind address (Next (record {
      pc = wrapped (s.pc + 4);
      x = with_reg s.x rd (extended kind (number_at (width kind) s.byte address));
      byte = s.byte;
    }))

abbrev pub store : ByteState → Kind → ℕ → ℕ → ByteAnswer
store s kind address value =
    at_address s kind address (Next (record {
      pc = wrapped (s.pc + 4);
      x = s.x;
      byte = with_bytes (width kind) address value s.byte;
    }))

-- an answer's pc and registers, with this memory
abbrev pub beside : Answer → (ℕ → ℕ) → ByteAnswer
beside (words.Next t) byte = Next (record { pc = t.pc; x = t.x; byte = byte })
beside words.Halt byte = Halt
beside (words.Fault f) byte = Fault f

abbrev pub byte_executed : Instr → ByteState → ByteAnswer
byte_executed (Load kind rd rs1 imm) s = load s kind rd (wrapped (slice_index s.x rs1 + bits_of imm))
byte_executed (Store kind rs1 rs2 imm) s = store s kind (wrapped (slice_index s.x rs1 + bits_of imm)) (slice_index s.x rs2)
byte_executed i s = beside (executed i (record { pc = s.pc; x = s.x; word = λ _. 0 })) s.byte

abbrev pub byte_executed_word : Option Instr → ℕ → ByteState → ByteAnswer
byte_executed_word None w s = Fault (Illegal s.pc w)
byte_executed_word (Some i) w s = byte_executed i s

abbrev pub byte_executed_fetch : Option ℕ → ByteState → ByteAnswer
byte_executed_fetch None s = Fault (BadPc s.pc)
byte_executed_fetch (Some w) s = byte_executed_word (decoded w) w s

-- what one step does
unfoldable pub byte_step : Img → ByteState → ByteAnswer
byte_step image s = byte_executed_fetch (fetch image s.pc) s

-- a state and an answer with their memory by bytes
abbrev pub by_bytes : State → ByteState
by_bytes s = record { pc = s.pc; x = s.x; byte = byte_at s.word }

abbrev pub answer_by_bytes : Answer → ByteAnswer
answer_by_bytes (words.Next t) = Next (by_bytes t)
answer_by_bytes words.Halt = Halt
answer_by_bytes (words.Fault f) = Fault f

-- each doubleword of memory is one
abbrev pub HasDoublewords : State → Type 0
HasDoublewords s = (k : ℕ) → s.word k < 2 ^ 64
