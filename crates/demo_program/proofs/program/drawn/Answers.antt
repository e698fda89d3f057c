use Rattle.std.proofs.Common.{◌%◌, ◌<◌, false, ap, ◌∙◌, arith}
use Rattle.std.proofs.lemmas.List.{get_or_default}
use Rattle.rv_word.specs.declared.instr.OpNo.{OpNo}
use Rattle.rv_word.specs.declared.instr.OpNo.TheVariants as ops
use Rattle.rv_word.specs.declared.instr.Instr.TheVariants.{Op}
use Rattle.demo_program.specs.Program.{drawn, alu_operations, mul_operations, rd, rs1, rs2, rest}
use Rattle.demo_program.proofs.program.drawn.Goals as goal

pub returns-in-Alu : goal.returns-in-Alu
unfolding drawn alu_operations
returns-in-Alu c = rw c.in-Alu.is c.operation.ensures

pub returns-in-Mul : goal.returns-in-Mul
unfolding drawn mul_operations
returns-in-Mul c =
    let d = c.args.draw in
    let less : rest d % 13 < 13 = omega arith in
    rw c.in-Mul.is (c.operation-in-Mul.ensures ∙ ap (λ (o : OpNo). Op o (rd d) (rs1 d) (rs2 d) false) (get_or_default mul_operations (rest d % 13) ops.Add ops.Mul less))
