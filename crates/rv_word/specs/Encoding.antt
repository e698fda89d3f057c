-- The word of an instruction: the fields of its row, and its operands at their places.
use Rattle.std.specs.Prelude.{◌==◌, ◌+◌, ◌*◌, ◌/◌, ◌%◌, ◌^◌, ℕ, ℤ, Bool, true, false, List, [], ◌∷◌}
use Rattle.std.specs.Int.{cast_unsigned, w64}
use Rattle.std.specs.List.{find}
use Rattle.std.specs.Option.{option_map, unwrap_or}
use Rattle.rv_word.specs.Table.{Field, rows}
use Rattle.rv_word.specs.Numbers.{op_number, kind_number}
use Rattle.rv_word.specs.declared.instr.Cond.{Cond}
use Rattle.rv_word.specs.declared.instr.Cond.TheVariants as conds
use Rattle.rv_word.specs.declared.instr.Instr.{Instr}
use Rattle.rv_word.specs.declared.instr.Instr.TheVariants.{Lui, Auipc, Jal, Jalr, Branch, Load, Store, OpImm, Op, Fence, Ecall, Ebreak}

-- the conditions are the same
abbrev pub same_cond : Cond → Cond → Bool
same_cond conds.Eq conds.Eq = true
same_cond conds.Ne conds.Ne = true
same_cond conds.Lt conds.Lt = true
same_cond conds.Ge conds.Ge = true
same_cond conds.Ltu conds.Ltu = true
same_cond conds.Geu conds.Geu = true
same_cond _ _ = false

-- the instructions differ in their operands alone
abbrev pub same_name : Instr → Instr → Bool
same_name (Lui _ _) (Lui _ _) = true
same_name (Auipc _ _) (Auipc _ _) = true
same_name (Jal _ _) (Jal _ _) = true
same_name (Jalr _ _ _) (Jalr _ _ _) = true
same_name (Branch c _ _ _) (Branch d _ _ _) = same_cond c d
same_name (Load j _ _ _) (Load k _ _ _) = kind_number j == kind_number k
same_name (Store j _ _ _) (Store k _ _ _) = kind_number j == kind_number k
same_name (OpImm o _ _ _ false) (OpImm p _ _ _ false) = op_number o == op_number p
same_name (OpImm o _ _ _ true) (OpImm p _ _ _ true) = op_number o == op_number p
same_name (Op o _ _ _ false) (Op p _ _ _ false) = op_number o == op_number p
same_name (Op o _ _ _ true) (Op p _ _ _ true) = op_number o == op_number p
same_name Fence Fence = true
same_name Ecall Ecall = true
same_name Ebreak Ebreak = true
same_name _ _ = false

-- the fields at their places
abbrev pub fields_sum : List Field → ℕ
fields_sum [] = 0
fields_sum (f ∷ fs) = 2 ^ f.low * f.value + fields_sum fs

-- the fields of the instruction's row, or 0 where no row has its name
unfoldable pub fixed_bits : Instr → ℕ
fixed_bits i = unwrap_or (option_map (λ r. fields_sum r.fields) (find (λ r. same_name i (r.instruction 0)) rows)) 0

-- the lowest bits of a signed number
unfoldable pub low : ℕ → ℤ → ℕ
low len z = cast_unsigned w64 z % 2 ^ len

-- the immediates of the forms S, B and J at their places
unfoldable pub s_bits : ℕ → ℕ
s_bits n = 2 ^ 25 * (n / 2 ^ 5) + 2 ^ 7 * (n % 2 ^ 5)

unfoldable pub b_bits : ℕ → ℕ
b_bits n = 2 ^ 31 * (n / 2 ^ 12) + 2 ^ 25 * (n / 2 ^ 5 % 2 ^ 6) + 2 ^ 8 * (n / 2 % 2 ^ 4) + 2 ^ 7 * (n / 2 ^ 11 % 2)

unfoldable pub j_bits : ℕ → ℕ
j_bits n = 2 ^ 31 * (n / 2 ^ 20) + 2 ^ 21 * (n / 2 % 2 ^ 10) + 2 ^ 20 * (n / 2 ^ 11 % 2) + 2 ^ 12 * (n / 2 ^ 12 % 2 ^ 8)

-- the operands at their places
abbrev pub operand_bits : Instr → ℕ
operand_bits (Lui rd imm) = 2 ^ 7 * rd + low 32 imm
operand_bits (Auipc rd imm) = 2 ^ 7 * rd + low 32 imm
operand_bits (Jal rd imm) = 2 ^ 7 * rd + j_bits (low 21 imm)
operand_bits (Jalr rd rs1 imm) = 2 ^ 7 * rd + 2 ^ 15 * rs1 + 2 ^ 20 * low 12 imm
operand_bits (Branch c rs1 rs2 imm) = 2 ^ 15 * rs1 + 2 ^ 20 * rs2 + b_bits (low 13 imm)
operand_bits (Load k rd rs1 imm) = 2 ^ 7 * rd + 2 ^ 15 * rs1 + 2 ^ 20 * low 12 imm
operand_bits (Store k rs1 rs2 imm) = 2 ^ 15 * rs1 + 2 ^ 20 * rs2 + s_bits (low 12 imm)
operand_bits (OpImm o rd rs1 imm uw) = 2 ^ 7 * rd + 2 ^ 15 * rs1 + 2 ^ 20 * low 12 imm
operand_bits (Op o rd rs1 rs2 uw) = 2 ^ 7 * rd + 2 ^ 15 * rs1 + 2 ^ 20 * rs2
operand_bits _ = 0

-- where no word stands for the instruction the sum may pass 32 bits
abbrev pub encoding : Instr → ℕ
encoding i = (fixed_bits i + operand_bits i) % 2 ^ 32
