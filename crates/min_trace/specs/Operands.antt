-- The registers that an instruction names, and its operation (RISC-V Unprivileged ISA, "RV32I", "RV64I", "M" and "Zba").
use Rattle.std.specs.Prelude.{ℕ, ◌+◌, Bool, false, Option, Some, None}
use Rattle.rv_word.specs.declared.instr.Cond.{Cond}
use Rattle.rv_word.specs.declared.instr.Cond.TheVariants as conds
use Rattle.rv_word.specs.declared.instr.OpNo.{OpNo}
use Rattle.rv_word.specs.declared.instr.OpNo.TheVariants as ops
use Rattle.rv_word.specs.declared.instr.Instr.{Instr}
use Rattle.rv_word.specs.declared.instr.Instr.TheVariants.{Lui, Auipc, Jal, Jalr, Branch, Load, Store, OpImm, Op, Fence, Ecall, Ebreak}
use Rattle.rv_model.specs.declared.machine.TheConstants.{CALL_REGISTER}
use Rattle.rv_model.specs.Op.{bits_of}
use Rattle.rv_model.specs.State.{wrapped}

-- the registers that are read: ECALL reads x17, and x0 stands where an instruction names none
abbrev pub rs1_of : Instr → ℕ
rs1_of (Jalr rd rs1 imm) = rs1
rs1_of (Branch cond rs1 rs2 imm) = rs1
rs1_of (Load kind rd rs1 imm) = rs1
rs1_of (Store kind rs1 rs2 imm) = rs1
rs1_of (OpImm op rd rs1 imm uw) = rs1
rs1_of (Op op rd rs1 rs2 uw) = rs1
rs1_of Ecall = CALL_REGISTER
rs1_of _ = 0

abbrev pub rs2_of : Instr → ℕ
rs2_of (Branch cond rs1 rs2 imm) = rs2
rs2_of (Store kind rs1 rs2 imm) = rs2
rs2_of (Op op rd rs1 rs2 uw) = rs2
rs2_of _ = 0

-- the register that is written; x0 stands where there is none
abbrev pub rd_of : Instr → ℕ
rd_of (Lui rd imm) = rd
rd_of (Auipc rd imm) = rd
rd_of (Jal rd imm) = rd
rd_of (Jalr rd rs1 imm) = rd
rd_of (Load kind rd rs1 imm) = rd
rd_of (OpImm op rd rs1 imm uw) = rd
rd_of (Op op rd rs1 rs2 uw) = rd
rd_of _ = 0

-- the comparison whose flag, or its opposite, takes a branch
abbrev pub compared_by : Cond → OpNo
compared_by conds.Eq = ops.Eq
compared_by conds.Ne = ops.Eq
compared_by conds.Lt = ops.Lt
compared_by conds.Ge = ops.Lt
compared_by conds.Ltu = ops.Ltu
compared_by conds.Geu = ops.Ltu

-- the operation of a step
abbrev pub op_of : Instr → OpNo
op_of (Branch cond rs1 rs2 imm) = compared_by cond
op_of (OpImm op rd rs1 imm uw) = op
op_of (Op op rd rs1 rs2 uw) = op
op_of _ = ops.Add

-- whether the operation's first operand is the low 32 bits of rs1's value alone
abbrev pub uw_of : Instr → Bool
uw_of (OpImm op rd rs1 imm uw) = uw
uw_of (Op op rd rs1 rs2 uw) = uw
uw_of _ = false

-- the operation's second operand where it is a constant of the instruction at pc; elsewhere it is rs2's value
abbrev pub constant_of : Instr → ℕ → Option ℕ
constant_of (Lui rd imm) pc = Some (bits_of imm)
constant_of (Auipc rd imm) pc = Some (wrapped (pc + bits_of imm))
constant_of (Jal rd imm) pc = Some (wrapped (pc + 4))
constant_of (Jalr rd rs1 imm) pc = Some (bits_of imm)
constant_of (Branch cond rs1 rs2 imm) pc = None
constant_of (Load kind rd rs1 imm) pc = Some (bits_of imm)
constant_of (Store kind rs1 rs2 imm) pc = Some (bits_of imm)
constant_of (OpImm op rd rs1 imm uw) pc = Some (bits_of imm)
constant_of (Op op rd rs1 rs2 uw) pc = None
constant_of Fence pc = Some 0
constant_of Ecall pc = Some 0
constant_of Ebreak pc = Some 0
