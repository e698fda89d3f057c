-- The rows of Rom: what an instruction tells the step that executes it (docs/WITNESS.md, "Rom").
use Rattle.std.specs.Prelude.{ℕ, ℤ, ◌+◌, ◌*◌, ◌/◌, ◌%◌, ◌==◌, ◌&&◌, nat_lt, Bool, if◌then◌else◌, List, [], ◌∷◌, Option, None, Some, option_map}
use Rattle.std.specs.List.{filter_map, range_with_len}
use Rattle.rv_word.specs.declared.instr.Cond.{Cond}
use Rattle.rv_word.specs.declared.instr.Cond.TheVariants as conds
use Rattle.rv_word.specs.declared.instr.OpNo.{OpNo}
use Rattle.rv_word.specs.declared.instr.OpNo.TheVariants as ops
use Rattle.rv_word.specs.declared.instr.Instr.{Instr}
use Rattle.rv_word.specs.declared.instr.Instr.TheVariants.{Lui, Auipc, Jal, Jalr, Branch, Load, Store, OpImm, Op, Fence, Ecall, Ebreak}
use Rattle.rv_word.specs.Numbers.{op_number, kind_number}
use Rattle.rv_model.specs.Image.{Img, fetch}
use Rattle.rv_model.specs.declared.machine.TheConstants.{MEMORY_END, CALL_REGISTER}
use Rattle.rv_model.specs.Op.{bits_of}
use Rattle.rv_model.specs.State.{wrapped}
use Rattle.min_trace.specs.Operands.{compared_by}
use Rattle.rv_model.specs.Code.{instr_of}
use Rattle.step_rows.specs.declared.rom_row.RomRow.{RomRow}
use Rattle.step_rows.specs.Words.{low, high, one_if}

-- whether a branch is taken where its comparison's flag is 0
abbrev pub turned : Cond → ℕ
turned conds.Eq = 0
turned conds.Ne = 1
turned conds.Lt = 0
turned conds.Ge = 1
turned conds.Ltu = 0
turned conds.Geu = 1

-- the target, or 1 where no instruction can stand there
unfoldable pub target : ℕ → ℤ → ℕ
target pc imm =
    let t = wrapped (pc + bits_of imm) in
    if t % 4 == 0 && nat_lt t MEMORY_END then t else 1

-- x0 is never written
unfoldable pub writes : ℕ → ℕ
writes rd = if rd == 0 then 0 else 1

-- a step that computes `o` of x0 and a constant 0, and nothing else
abbrev pub blank : ℕ → OpNo → RomRow
blank pc o = record { pc = pc; rs1 = 0; rs2 = 0; rd = 0; op = op_number o; ilo = 0; ihi = 0; klo = 0; khi = 0; jt = 0; kind = 0; bi = 1; wr = 0; ld = 0; st = 0; jr = 0; jp = 0; br = 0; inv = 0; halt = 0; uw = 0 }

-- with a constant as second operand, and with rd written
abbrev pub with_constant : RomRow → ℕ → RomRow
with_constant r b = record r { ilo = low b; ihi = high b }

abbrev pub writing : ℕ → RomRow → RomRow
writing rd r = record r { rd = rd; wr = writes rd }

-- the row of an instruction at pc
abbrev pub rom_row : ℕ → Instr → RomRow
rom_row pc (Lui rd imm) = writing rd (with_constant (blank pc ops.Add) (bits_of imm))
rom_row pc (Auipc rd imm) = writing rd (with_constant (blank pc ops.Add) (wrapped (pc + bits_of imm)))
rom_row pc (Jal rd imm) = writing rd (record (with_constant (blank pc ops.Add) (wrapped (pc + 4))) { jp = 1; jt = target pc imm })
rom_row pc (Jalr rd rs1 imm) = writing rd (record (with_constant (blank pc ops.Add) (bits_of imm)) { rs1 = rs1; jr = 1; klo = low (wrapped (pc + 4)); khi = high (wrapped (pc + 4)) })
rom_row pc (Branch c rs1 rs2 imm) = record (blank pc (compared_by c)) { rs1 = rs1; rs2 = rs2; bi = 0; br = 1; jt = target pc imm; inv = turned c }
rom_row pc (Load k rd rs1 imm) = writing rd (record (with_constant (blank pc ops.Add) (bits_of imm)) { rs1 = rs1; ld = 1; kind = kind_number k })
rom_row pc (Store k rs1 rs2 imm) = record (with_constant (blank pc ops.Add) (bits_of imm)) { rs1 = rs1; rs2 = rs2; st = 1; kind = kind_number k }
rom_row pc (OpImm o rd rs1 imm uw) = writing rd (record (with_constant (blank pc o) (bits_of imm)) { rs1 = rs1; uw = one_if uw })
rom_row pc (Op o rd rs1 rs2 uw) = writing rd (record (blank pc o) { rs1 = rs1; rs2 = rs2; bi = 0; uw = one_if uw })
rom_row pc Fence = blank pc ops.Add
rom_row pc Ecall = record (blank pc ops.Add) { rs1 = CALL_REGISTER; halt = 1 }
rom_row pc Ebreak = blank pc ops.Add

-- in order of the columns
abbrev pub cells : RomRow → List ℕ
cells r = r.pc ∷ r.rs1 ∷ r.rs2 ∷ r.rd ∷ r.op ∷ r.ilo ∷ r.ihi ∷ r.klo ∷ r.khi ∷ r.jt ∷ r.kind ∷ r.bi ∷ r.wr ∷ r.ld ∷ r.st ∷ r.jr ∷ r.jp ∷ r.br ∷ r.inv ∷ r.halt ∷ r.uw ∷ []

-- EBREAK has no row: no step executes it
abbrev pub row_unless_break : ℕ → Option Instr → Option RomRow
row_unless_break pc None = None
row_unless_break pc (Some Ebreak) = None
row_unless_break pc (Some i) = Some (rom_row pc i)

-- the row of the executable word at pc
abbrev pub row_at : Img → ℕ → Option RomRow
row_at image pc = row_unless_break pc (instr_of (fetch image pc))

-- how many words of four bytes memory has
unfoldable pub words : ℕ
words = MEMORY_END / 4

-- all rows, in order of pc
unfoldable pub rom_rows : Img → List RomRow
rom_rows image = filter_map (λ k. row_at image (4 * k)) (range_with_len 0 words)
