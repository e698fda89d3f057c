use Rattle.std.proofs.Common.{◌≡◌, ◌==◌, ◌*◌, ◌/◌, ◌%◌, pos, to_z, w64, arith, sym, ◌∙◌, true, false}
use Rattle.std.proofs.lemmas.Int.{ints}
use Rattle.std.proofs.lemmas.Bool.{cond-true, cond-false, eq-eqb}
use Rattle.rv_word.specs.declared.instr.Kind.TheVariants.{Ld, Sd}
use Rattle.rv_word.specs.declared.instr.Instr.TheVariants.{Load, Store}
use Rattle.demo_program.specs.Program.{drawn, rd, rs2, rest, offset}
use Rattle.demo_program.proofs.program.access.Goals as goal

pub returns-then-rest-eq0 : goal.returns-then-rest-eq0
unfolding drawn
returns-then-rest-eq0 c =
    let d = c.args.draw in
    let imm : to_z w64 (8 * (d / 512 / 2 % 256)) ≡ pos (8 * (d / 512 / 2 % 256)) = omega (arith, ints) in
    let even : (rest d % 2 == 0) ≡ true = eq-eqb _ _ (omega arith) in
    sym (cond-true (rest d % 2 == 0) (Store Sd 5 (rs2 d) (offset d)) (Load Ld (rd d) 5 (offset d)) even ∙ cc (c.base.ensures, c.value.ensures, imm))

pub returns-else-rest-eq0 : goal.returns-else-rest-eq0
unfolding drawn
returns-else-rest-eq0 c =
    let d = c.args.draw in
    let imm : to_z w64 (8 * (d / 512 / 2 % 256)) ≡ pos (8 * (d / 512 / 2 % 256)) = omega (arith, ints) in
    let odd : (rest d % 2 == 0) ≡ false = grind (arith) in
    sym (cond-false (rest d % 2 == 0) (Store Sd 5 (rs2 d) (offset d)) (Load Ld (rd d) 5 (offset d)) odd ∙ cc (c.base-else-rest-eq0.ensures, c.value-else-rest-eq0.ensures, imm))
