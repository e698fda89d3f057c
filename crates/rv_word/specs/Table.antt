-- The instructions of RV64IM, Zba and Zicond, a row for each (RISC-V Unprivileged ISA, RV32/64G Instruction Set
-- Listings; Zba: "Address generation instructions"; Zicond: "Integer Conditional Operations").
use Rattle.std.specs.Prelude.{ℕ, ℤ, pos, true, false, List, [], ◌∷◌}
use Rattle.rv_word.specs.Fields.{bits_at, rd_of, rs1_of, rs2_of, i_imm, s_imm, b_imm, u_imm, j_imm}
use Rattle.rv_word.specs.declared.instr.Cond.TheVariants as conds
use Rattle.rv_word.specs.declared.instr.Kind.TheVariants.{Lb, Lh, Lw, Ld, Lbu, Lhu, Lwu, Sb, Sh, Sw, Sd}
use Rattle.rv_word.specs.declared.instr.OpNo.{OpNo}
use Rattle.rv_word.specs.declared.instr.OpNo.TheVariants as ops
use Rattle.rv_word.specs.declared.instr.Instr.{Instr}
use Rattle.rv_word.specs.declared.instr.Instr.TheVariants.{Lui, Auipc, Jal, Jalr, Branch, Load, Store, OpImm, Op, Fence, Ecall, Ebreak}

-- a value that len bits of the word have, from bit low on
pub record Field : Type 0 where
  pub low : ℕ
  pub len : ℕ
  pub value : ℕ

-- the fields that a word of the row has, and the instruction that such a word stands for
pub record Row : Type 0 where
  pub fields : List Field
  pub instruction : ℕ → Instr

-- the fields that rows name
abbrev pub field : ℕ → ℕ → ℕ → Field
field low len value = record { low = low; len = len; value = value }

abbrev pub opcode : ℕ → Field
opcode value = field 0 7 value

abbrev pub funct3 : ℕ → Field
funct3 value = field 12 3 value

abbrev pub funct7 : ℕ → Field
funct7 value = field 25 7 value

-- bits 31 to 26, above the amount of a shift
abbrev pub funct6 : ℕ → Field
funct6 value = field 26 6 value

-- the forms: the fields of a row, and the operands that its instruction reads from a word
abbrev pub r_type : ℕ → ℕ → ℕ → (ℕ → ℕ → ℕ → Instr) → Row
r_type code f3 f7 make = record {
  fields = opcode code ∷ funct3 f3 ∷ funct7 f7 ∷ [];
  instruction = λ w. make (rd_of w) (rs1_of w) (rs2_of w);
}

abbrev pub i_type : ℕ → ℕ → (ℕ → ℕ → ℤ → Instr) → Row
i_type code f3 make = record {
  fields = opcode code ∷ funct3 f3 ∷ [];
  instruction = λ w. make (rd_of w) (rs1_of w) (i_imm w);
}

-- form I of a shift by an amount of six bits
abbrev pub shift_type : ℕ → ℕ → ℕ → (ℕ → ℕ → ℤ → Instr) → Row
shift_type code f3 f6 make = record {
  fields = opcode code ∷ funct3 f3 ∷ funct6 f6 ∷ [];
  instruction = λ w. make (rd_of w) (rs1_of w) (pos (bits_at 20 6 w));
}

-- form I of a shift by an amount of five bits; the bit above it is 0
abbrev pub shift_w_type : ℕ → ℕ → ℕ → (ℕ → ℕ → ℤ → Instr) → Row
shift_w_type code f3 f6 make = record {
  fields = opcode code ∷ funct3 f3 ∷ funct6 f6 ∷ field 25 1 0 ∷ [];
  instruction = λ w. make (rd_of w) (rs1_of w) (pos (bits_at 20 5 w));
}

abbrev pub s_type : ℕ → ℕ → (ℕ → ℕ → ℤ → Instr) → Row
s_type code f3 make = record {
  fields = opcode code ∷ funct3 f3 ∷ [];
  instruction = λ w. make (rs1_of w) (rs2_of w) (s_imm w);
}

abbrev pub b_type : ℕ → ℕ → (ℕ → ℕ → ℤ → Instr) → Row
b_type code f3 make = record {
  fields = opcode code ∷ funct3 f3 ∷ [];
  instruction = λ w. make (rs1_of w) (rs2_of w) (b_imm w);
}

abbrev pub u_type : ℕ → (ℕ → ℤ → Instr) → Row
u_type code make = record {
  fields = opcode code ∷ [];
  instruction = λ w. make (rd_of w) (u_imm w);
}

abbrev pub j_type : ℕ → (ℕ → ℤ → Instr) → Row
j_type code make = record {
  fields = opcode code ∷ [];
  instruction = λ w. make (rd_of w) (j_imm w);
}

-- no operands: bits 31 to 7 are given as one number, or only funct3 is
abbrev pub system_type : ℕ → ℕ → Instr → Row
system_type code rest i = record { fields = opcode code ∷ field 7 25 rest ∷ []; instruction = λ w. i }

abbrev pub fence_type : ℕ → ℕ → Instr → Row
fence_type code f3 i = record { fields = opcode code ∷ funct3 f3 ∷ []; instruction = λ w. i }

-- an operation with an immediate, or on two registers; those with uw take the low 32 bits of rs1
abbrev pub imm_op : OpNo → ℕ → ℕ → ℤ → Instr
imm_op o rd rs1 imm = OpImm o rd rs1 imm false

abbrev pub imm_op_uw : OpNo → ℕ → ℕ → ℤ → Instr
imm_op_uw o rd rs1 imm = OpImm o rd rs1 imm true

abbrev pub reg_op : OpNo → ℕ → ℕ → ℕ → Instr
reg_op o rd rs1 rs2 = Op o rd rs1 rs2 false

abbrev pub reg_op_uw : OpNo → ℕ → ℕ → ℕ → Instr
reg_op_uw o rd rs1 rs2 = Op o rd rs1 rs2 true

-- in each row: the form, the opcode, funct3 and funct7 or funct6 where the form has them, and the name
unfoldable pub rows : List Row
rows =
    -- RV32I and RV64I: constants, jumps, branches
    u_type 0x37 Lui
    ∷ u_type 0x17 Auipc
    ∷ j_type 0x6f Jal
    ∷ i_type 0x67 0 Jalr
    ∷ b_type 0x63 0 (Branch conds.Eq)
    ∷ b_type 0x63 1 (Branch conds.Ne)
    ∷ b_type 0x63 4 (Branch conds.Lt)
    ∷ b_type 0x63 5 (Branch conds.Ge)
    ∷ b_type 0x63 6 (Branch conds.Ltu)
    ∷ b_type 0x63 7 (Branch conds.Geu)
    -- loads and stores
    ∷ i_type 0x03 0 (Load Lb)
    ∷ i_type 0x03 1 (Load Lh)
    ∷ i_type 0x03 2 (Load Lw)
    ∷ i_type 0x03 3 (Load Ld)
    ∷ i_type 0x03 4 (Load Lbu)
    ∷ i_type 0x03 5 (Load Lhu)
    ∷ i_type 0x03 6 (Load Lwu)
    ∷ s_type 0x23 0 (Store Sb)
    ∷ s_type 0x23 1 (Store Sh)
    ∷ s_type 0x23 2 (Store Sw)
    ∷ s_type 0x23 3 (Store Sd)
    -- operations with an immediate, and those on 32 bits
    ∷ i_type 0x13 0 (imm_op ops.Add)
    ∷ i_type 0x13 2 (imm_op ops.Lt)
    ∷ i_type 0x13 3 (imm_op ops.Ltu)
    ∷ i_type 0x13 4 (imm_op ops.Xor)
    ∷ i_type 0x13 6 (imm_op ops.Or)
    ∷ i_type 0x13 7 (imm_op ops.And)
    ∷ shift_type 0x13 1 0x00 (imm_op ops.Sll)
    ∷ shift_type 0x13 5 0x00 (imm_op ops.Srl)
    ∷ shift_type 0x13 5 0x10 (imm_op ops.Sra)
    ∷ i_type 0x1b 0 (imm_op ops.Addw)
    ∷ shift_type 0x1b 1 0x02 (imm_op_uw ops.Sll)
    ∷ shift_w_type 0x1b 1 0x00 (imm_op ops.Sllw)
    ∷ shift_w_type 0x1b 5 0x00 (imm_op ops.Srlw)
    ∷ shift_w_type 0x1b 5 0x10 (imm_op ops.Sraw)
    -- operations on two registers
    ∷ r_type 0x33 0 0x00 (reg_op ops.Add)
    ∷ r_type 0x33 0 0x20 (reg_op ops.Sub)
    ∷ r_type 0x33 1 0x00 (reg_op ops.Sll)
    ∷ r_type 0x33 2 0x00 (reg_op ops.Lt)
    ∷ r_type 0x33 3 0x00 (reg_op ops.Ltu)
    ∷ r_type 0x33 4 0x00 (reg_op ops.Xor)
    ∷ r_type 0x33 5 0x00 (reg_op ops.Srl)
    ∷ r_type 0x33 5 0x20 (reg_op ops.Sra)
    ∷ r_type 0x33 6 0x00 (reg_op ops.Or)
    ∷ r_type 0x33 7 0x00 (reg_op ops.And)
    ∷ r_type 0x3b 0 0x00 (reg_op ops.Addw)
    ∷ r_type 0x3b 0 0x20 (reg_op ops.Subw)
    ∷ r_type 0x3b 1 0x00 (reg_op ops.Sllw)
    ∷ r_type 0x3b 5 0x00 (reg_op ops.Srlw)
    ∷ r_type 0x3b 5 0x20 (reg_op ops.Sraw)
    -- RV32M and RV64M
    ∷ r_type 0x33 0 0x01 (reg_op ops.Mul)
    ∷ r_type 0x33 1 0x01 (reg_op ops.Mulh)
    ∷ r_type 0x33 2 0x01 (reg_op ops.Mulhsu)
    ∷ r_type 0x33 3 0x01 (reg_op ops.Mulhu)
    ∷ r_type 0x33 4 0x01 (reg_op ops.Div)
    ∷ r_type 0x33 5 0x01 (reg_op ops.Divu)
    ∷ r_type 0x33 6 0x01 (reg_op ops.Rem)
    ∷ r_type 0x33 7 0x01 (reg_op ops.Remu)
    ∷ r_type 0x3b 0 0x01 (reg_op ops.Mulw)
    ∷ r_type 0x3b 4 0x01 (reg_op ops.Divw)
    ∷ r_type 0x3b 5 0x01 (reg_op ops.Divuw)
    ∷ r_type 0x3b 6 0x01 (reg_op ops.Remw)
    ∷ r_type 0x3b 7 0x01 (reg_op ops.Remuw)
    -- Zba: sums of a shifted number, and those with uw
    ∷ r_type 0x33 2 0x10 (reg_op ops.Sh1add)
    ∷ r_type 0x33 4 0x10 (reg_op ops.Sh2add)
    ∷ r_type 0x33 6 0x10 (reg_op ops.Sh3add)
    ∷ r_type 0x3b 0 0x04 (reg_op_uw ops.Add)
    ∷ r_type 0x3b 2 0x10 (reg_op_uw ops.Sh1add)
    ∷ r_type 0x3b 4 0x10 (reg_op_uw ops.Sh2add)
    ∷ r_type 0x3b 6 0x10 (reg_op_uw ops.Sh3add)
    -- Zicond
    ∷ r_type 0x33 5 0x07 (reg_op ops.Czeqz)
    ∷ r_type 0x33 7 0x07 (reg_op ops.Cznez)
    -- FENCE with any other bits; ECALL and EBREAK, the words 0x00000073 and 0x00100073
    ∷ fence_type 0x0f 0 Fence
    ∷ system_type 0x73 0x0000 Ecall
    ∷ system_type 0x73 0x2000 Ebreak
    ∷ []
