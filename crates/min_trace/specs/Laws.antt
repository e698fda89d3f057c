-- What the fields of a record have to do with each other (RISC-V Unprivileged ISA, "RV32I", "RV64I", "M" and "Zba").
use Rattle.std.specs.Prelude.{◌≡◌, ◌==◌, ℕ, ◌+◌, ◌*◌, ◌/◌, ◌%◌, ◌^◌, ◌<◌, Bool, not, Option, Some, None, slice_index, if◌then◌else◌}
use Rattle.std.specs.Option.{option_map_or}
use Rattle.rv_word.specs.declared.instr.Cond.{Cond}
use Rattle.rv_word.specs.declared.instr.Cond.TheVariants as conds
use Rattle.rv_word.specs.declared.instr.Kind.{Kind}
use Rattle.rv_word.specs.declared.instr.Instr.{Instr}
use Rattle.rv_word.specs.declared.instr.Instr.TheVariants.{Jal, Jalr, Branch, Load, Store, Ecall, Ebreak}
use Rattle.rv_model.specs.Op.{value_of, flag_of, bits_of}
use Rattle.rv_model.specs.Align.{width, aligned}
use Rattle.rv_model.specs.State.{State, wrapped, operand}
use Rattle.min_trace.specs.Operands.{rd_of, uw_of}
use Rattle.min_trace.specs.declared.record.MemAct.{MemAct}
use Rattle.min_trace.specs.declared.record.StepRecord.{StepRecord}

-- the operation's first operand: rs1's value, or its low 32 bits alone
abbrev pub first_of : StepRecord → ℕ
first_of r = operand (uw_of r.instr) r.a

-- c and flag are what the operation makes of its operands
abbrev pub Computes : StepRecord → Type 0
Computes r = (r.c ≡ value_of r.op (first_of r) r.b) × (r.flag ≡ flag_of r.op (first_of r) r.b)

-- pc, and the values of the two registers that are read
abbrev pub Reads : StepRecord → State → Type 0
Reads r now = (r.pc ≡ now.pc) × (r.a ≡ slice_index now.x r.rs1) × (r.s ≡ slice_index now.x r.rs2)

-- an access at the byte address c, which is good, to the doubleword that the memory has there
abbrev pub IsActAt : Kind → ℕ → StepRecord → (ℕ → ℕ) → Type 0
IsActAt kind value r word = (r.c % width kind ≡ 0) × (r.c < 2 ^ 32) × (r.mem ≡ Some (record {
  index = r.c / 8;
  off = r.c % 8;
  kind = kind;
  old = word (r.c / 8);
  result = aligned kind (r.c % 8) (word (r.c / 8)) value;
}))

-- a load and a store make an access, a store with rs2's value; no other instruction makes one
abbrev pub Accesses : Instr → StepRecord → (ℕ → ℕ) → Type 0
Accesses (Load kind rd rs1 imm) r word = IsActAt kind 0 r word
Accesses (Store kind rs1 rs2 imm) r word = IsActAt kind r.s r word
Accesses _ r word = r.mem ≡ None

-- whether a branch is taken, by the flag of its comparison
abbrev pub is_taken_by : Cond → Bool → Bool
is_taken_by conds.Eq flag = flag
is_taken_by conds.Ne flag = not flag
is_taken_by conds.Lt flag = flag
is_taken_by conds.Ge flag = not flag
is_taken_by conds.Ltu flag = flag
is_taken_by conds.Geu flag = not flag

-- the next pc, which ECALL has none of
abbrev pub leads_to : Instr → StepRecord → Option ℕ
leads_to (Jal rd imm) r = Some (wrapped (r.pc + bits_of imm))
leads_to (Jalr rd rs1 imm) r = Some (r.c / 2 * 2)
leads_to (Branch cond rs1 rs2 imm) r = Some (if is_taken_by cond r.flag then wrapped (r.pc + bits_of imm) else wrapped (r.pc + 4))
leads_to Ecall r = None
leads_to Ebreak r = None
leads_to _ r = Some (wrapped (r.pc + 4))

-- the value that comes into rd: what was loaded, JALR's link, else what was computed
abbrev pub value_in : Instr → StepRecord → ℕ
value_in (Jalr rd rs1 imm) r = wrapped (r.pc + 4)
value_in (Load kind rd rs1 imm) r = option_map_or (λ (m : MemAct). m.result) r.mem 0
value_in _ r = r.c

-- the register that is written, and its value; x0 is never written
abbrev pub written_by : Instr → StepRecord → Option (ℕ × ℕ)
written_by i r = if rd_of i == 0 then None else Some (rd_of i, value_in i r)
