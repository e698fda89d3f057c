-- The instructions of a demo program (docs/DEMO.md).
use Rattle.std.specs.Prelude.{ℕ, ◌+◌, ◌*◌, ◌/◌, ◌%◌, ◌^◌, ◌==◌, pos, ◌-ℤ◌, ℤ, false, List, [], ◌∷◌, ◌++◌, map, slice_index_or, if◌then◌else◌}
use Rattle.std.specs.List.{range_with_len}
use Rattle.rv_word.specs.declared.instr.Kind.TheVariants.{Ld, Sd}
use Rattle.rv_word.specs.declared.instr.OpNo.{OpNo}
use Rattle.rv_word.specs.declared.instr.OpNo.TheVariants.{Add, Sub, Lt, Ltu, Xor, Or, And, Sll, Srl, Sra, Addw, Subw, Sllw, Srlw, Sraw, Mulh, Mulhsu, Mulhu, Div, Divu, Rem, Remu, Mulw, Divw, Divuw, Remw, Remuw}
use Rattle.rv_word.specs.declared.instr.OpNo.TheVariants as ops
use Rattle.rv_word.specs.declared.instr.Instr.{Instr}
use Rattle.rv_word.specs.declared.instr.Instr.TheVariants.{Lui, Load, Store, OpImm, Op, Ecall}
use Rattle.rv_model.specs.declared.machine.TheConstants.{CALL_REGISTER, EXIT_CALL, EXIT_REGISTER}
use Rattle.demo_program.specs.declared.kind.DemoKind.{DemoKind}
use Rattle.demo_program.specs.declared.kind.DemoKind.TheVariants as kinds
use Rattle.demo_program.specs.Draws.{draw}

-- the operations among which `alu` and `mul` choose
unfoldable pub alu_operations : List OpNo
alu_operations =
    Add ∷ Sub ∷ Lt ∷ Ltu ∷ Xor ∷ Or ∷ And ∷ Sll ∷ Srl ∷ Sra ∷ Addw ∷ Subw ∷ Sllw ∷ Srlw ∷ Sraw ∷ []

unfoldable pub mul_operations : List OpNo
mul_operations =
    ops.Mul ∷ Mulh ∷ Mulhsu ∷ Mulhu ∷ Div ∷ Divu ∷ Rem ∷ Remu ∷ Mulw ∷ Divw ∷ Divuw ∷ Remw ∷ Remuw ∷ []

-- the registers that a draw names, of x6 to x13, and what is left of it
abbrev pub rd : ℕ → ℕ
rd d = 6 + d % 8

abbrev pub rs1 : ℕ → ℕ
rs1 d = 6 + d / 8 % 8

abbrev pub rs2 : ℕ → ℕ
rs2 d = 6 + d / 64 % 8

abbrev pub rest : ℕ → ℕ
rest d = d / 512

-- where an access is, from x5 on
abbrev pub offset : ℕ → ℤ
offset d = pos (8 * (rest d / 2 % 256))

-- the instruction of a draw
unfoldable pub drawn : DemoKind → ℕ → Instr
drawn kinds.Alu d = Op (slice_index_or alu_operations (rest d % 15) Add) (rd d) (rs1 d) (rs2 d) false
drawn kinds.Mul d = Op (slice_index_or mul_operations (rest d % 13) ops.Mul) (rd d) (rs1 d) (rs2 d) false
drawn kinds.Mem d = if rest d % 2 == 0 then Store Sd 5 (rs2 d) (offset d) else Load Ld (rd d) 5 (offset d)

-- x5 holds the base of accesses, first of memory that nothing else uses, and then of the output window
abbrev pub set_base : ℕ → Instr
set_base page = Lui 5 (pos (page * 2 ^ 12))

-- x6 to x13 from the first eight draws
unfoldable pub set_value : ℕ → ℕ → Instr
set_value number j = OpImm Add (6 + j) 0 (pos (draw number j % 4096) -ℤ pos 2048) false

-- x6 to x13 into the output window
unfoldable pub put_out : ℕ → Instr
put_out j = Store Sd 5 (6 + j) (pos (8 * j))

-- exit with 0
unfoldable pub leave : List Instr
leave = OpImm Add CALL_REGISTER 0 (pos EXIT_CALL) false ∷ OpImm Add EXIT_REGISTER 0 (pos 0) false ∷ Ecall ∷ []

unfoldable pub instructions : ℕ → DemoKind → ℕ → List Instr
instructions number kind size =
    set_base 0x60000 ∷ []
    ++ map (set_value number) (range_with_len 0 8)
    ++ map (λ k. drawn kind (draw number k)) (range_with_len 8 size)
    ++ set_base 0x50000 ∷ []
    ++ map put_out (range_with_len 0 8)
    ++ leave
