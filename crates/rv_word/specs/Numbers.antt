-- The numbers of operations and of kinds of access (docs/MACHINE.md).
use Rattle.std.specs.Prelude.{ℕ}
use Rattle.rv_word.specs.declared.instr.Kind.{Kind}
use Rattle.rv_word.specs.declared.instr.Kind.TheVariants as kinds
use Rattle.rv_word.specs.declared.instr.OpNo.{OpNo}
use Rattle.rv_word.specs.declared.instr.OpNo.TheVariants as ops

-- the number of a kind of load or store
unfoldable pub kind_number : Kind → ℕ
kind_number kinds.Lb = 1
kind_number kinds.Lh = 2
kind_number kinds.Lw = 3
kind_number kinds.Ld = 4
kind_number kinds.Lbu = 5
kind_number kinds.Lhu = 6
kind_number kinds.Lwu = 7
kind_number kinds.Sb = 8
kind_number kinds.Sh = 9
kind_number kinds.Sw = 10
kind_number kinds.Sd = 11

-- the number of an operation
unfoldable pub op_number : OpNo → ℕ
op_number ops.Add = 1
op_number ops.Sub = 2
op_number ops.Ltu = 3
op_number ops.Lt = 4
op_number ops.Eq = 5
op_number ops.And = 6
op_number ops.Or = 7
op_number ops.Xor = 8
op_number ops.Addw = 9
op_number ops.Subw = 10
op_number ops.Sll = 11
op_number ops.Srl = 12
op_number ops.Sra = 13
op_number ops.Sllw = 14
op_number ops.Srlw = 15
op_number ops.Sraw = 16
op_number ops.Mul = 17
op_number ops.Mulh = 18
op_number ops.Mulhsu = 19
op_number ops.Mulhu = 20
op_number ops.Div = 21
op_number ops.Divu = 22
op_number ops.Rem = 23
op_number ops.Remu = 24
op_number ops.Mulw = 25
op_number ops.Divw = 26
op_number ops.Divuw = 27
op_number ops.Remw = 28
op_number ops.Remuw = 29
op_number ops.Sh1add = 30
op_number ops.Sh2add = 31
op_number ops.Sh3add = 32
op_number ops.Czeqz = 33
op_number ops.Cznez = 34
