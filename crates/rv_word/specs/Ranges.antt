-- Which operands a word can hold (RISC-V Unprivileged ISA, 2.2 to 2.6), and which names.
use Rattle.std.specs.Prelude.{ℕ, ℤ, Bool, true, false, pos, neg_ℤ, ◌≤ℤ◌, ◌<ℤ◌, ◌<◌, ◌^◌, ◌/◌}
use Rattle.rv_word.specs.declared.instr.Kind.{Kind}
use Rattle.rv_word.specs.declared.instr.Kind.TheVariants as kinds
use Rattle.rv_word.specs.declared.instr.OpNo.{OpNo}
use Rattle.rv_word.specs.declared.instr.OpNo.TheVariants as ops
use Rattle.rv_word.specs.declared.instr.Instr.{Instr}
use Rattle.rv_word.specs.declared.instr.Instr.TheVariants.{Lui, Auipc, Jal, Jalr, Branch, Load, Store, OpImm, Op}

-- a signed number of len bits
abbrev pub IsSigned : ℕ → ℤ → Type 0
IsSigned len z = (neg_ℤ (pos (2 ^ len / 2)) ≤ℤ z) × (z <ℤ pos (2 ^ len / 2))

-- a number below the bound
abbrev pub IsAmount : ℕ → ℤ → Type 0
IsAmount bound z = (pos 0 ≤ℤ z) × (z <ℤ pos bound)

-- the immediate of an operation: the amount of a shift, or 12 bits
abbrev pub IsImmOf : OpNo → ℤ → Type 0
IsImmOf ops.Sll z = IsAmount 64 z
IsImmOf ops.Srl z = IsAmount 64 z
IsImmOf ops.Sra z = IsAmount 64 z
IsImmOf ops.Sllw z = IsAmount 32 z
IsImmOf ops.Srlw z = IsAmount 32 z
IsImmOf ops.Sraw z = IsAmount 32 z
IsImmOf _ z = IsSigned 12 z

-- the kinds of loads and of stores
abbrev pub IsLoadKind : Kind → Type 0
IsLoadKind kinds.Sb = ⊥
IsLoadKind kinds.Sh = ⊥
IsLoadKind kinds.Sw = ⊥
IsLoadKind kinds.Sd = ⊥
IsLoadKind _ = Unit {0}

abbrev pub IsStoreKind : Kind → Type 0
IsStoreKind kinds.Sb = Unit {0}
IsStoreKind kinds.Sh = Unit {0}
IsStoreKind kinds.Sw = Unit {0}
IsStoreKind kinds.Sd = Unit {0}
IsStoreKind _ = ⊥

-- the operations that have an immediate, without and with uw
abbrev pub HasImm : OpNo → Bool → Type 0
HasImm ops.Add false = Unit {0}
HasImm ops.Lt false = Unit {0}
HasImm ops.Ltu false = Unit {0}
HasImm ops.Xor false = Unit {0}
HasImm ops.Or false = Unit {0}
HasImm ops.And false = Unit {0}
HasImm ops.Sll _ = Unit {0}
HasImm ops.Srl false = Unit {0}
HasImm ops.Sra false = Unit {0}
HasImm ops.Addw false = Unit {0}
HasImm ops.Sllw false = Unit {0}
HasImm ops.Srlw false = Unit {0}
HasImm ops.Sraw false = Unit {0}
HasImm _ _ = ⊥

-- the operations on two registers, without and with uw: without it all but EQ, which branches alone have
abbrev pub HasRegs : OpNo → Bool → Type 0
HasRegs ops.Eq _ = ⊥
HasRegs _ false = Unit {0}
HasRegs ops.Add true = Unit {0}
HasRegs ops.Sh1add true = Unit {0}
HasRegs ops.Sh2add true = Unit {0}
HasRegs ops.Sh3add true = Unit {0}
HasRegs _ true = ⊥

-- the registers are below 32, the immediate is one that the instruction's form can hold, and some instruction has the
-- kind or the operation
abbrev pub InRange : Instr → Type 0
InRange (Lui rd imm) = (rd < 32) × IsSigned 32 imm
InRange (Auipc rd imm) = (rd < 32) × IsSigned 32 imm
InRange (Jal rd imm) = (rd < 32) × IsSigned 21 imm
InRange (Jalr rd rs1 imm) = (rd < 32) × (rs1 < 32) × IsSigned 12 imm
InRange (Branch c rs1 rs2 imm) = (rs1 < 32) × (rs2 < 32) × IsSigned 13 imm
InRange (Load k rd rs1 imm) = IsLoadKind k × (rd < 32) × (rs1 < 32) × IsSigned 12 imm
InRange (Store k rs1 rs2 imm) = IsStoreKind k × (rs1 < 32) × (rs2 < 32) × IsSigned 12 imm
InRange (OpImm o rd rs1 imm uw) = HasImm o uw × (rd < 32) × (rs1 < 32) × IsImmOf o imm
InRange (Op o rd rs1 rs2 uw) = HasRegs o uw × (rd < 32) × (rs1 < 32) × (rs2 < 32)
InRange _ = Unit {0}
