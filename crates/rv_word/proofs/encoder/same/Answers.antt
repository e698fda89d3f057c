use Rattle.std.proofs.Common.{◌≡◌, true, rules, arith, refl, sym, ◌∙◌}
use Rattle.std.proofs.lemmas.Grind.{common_steps}
use denote.Enum.Bare.{same_true, sameb}
use Rattle.rv_word.specs.declared.instr.OpNo.{OpNo}
use Rattle.rv_word.specs.contracts.instr.OpNo.{the_type}
use Rattle.rv_word.specs.declared.instr.Instr.{Instr}
use Rattle.rv_word.specs.contracts.instr.InstrPartialEq.TheImpl as derived
use Rattle.rv_word.specs.declared.instr.Instr.TheVariants.{Lui, Auipc, Jal, Jalr, Branch, Load, Store, OpImm, Op, Fence, Ecall, Ebreak}
use Rattle.rv_word.specs.contracts.instr.InstrEq.TheImpl.Laws.{laws-law}
use Rattle.rv_word.proofs.encoder.same.Goals as goal

same_op : (a b : OpNo) → sameb the_type a b ≡ true → a ≡ b
same_op a b p = same_true the_type (search rules) a b p

same_instr : (a b : Instr) → (derived.ghosts).eq a b ≡ true → a ≡ b
same_instr (Lui rd imm) (Lui rd' imm') e = grind (arith, common_steps)
same_instr (Auipc rd imm) (Auipc rd' imm') e = grind (arith, common_steps)
same_instr (Jal rd imm) (Jal rd' imm') e = grind (arith, common_steps)
same_instr (Jalr rd rs1 imm) (Jalr rd' rs1' imm') e = grind (arith, common_steps)
same_instr (Branch c rs1 rs2 imm) (Branch c' rs1' rs2' imm') e = grind (arith, common_steps)
same_instr (Load k rd rs1 imm) (Load k' rd' rs1' imm') e = grind (arith, common_steps)
same_instr (Store k rs1 rs2 imm) (Store k' rs1' rs2' imm') e = grind (arith, common_steps)
same_instr (OpImm o rd rs1 imm uw) (OpImm o' rd' rs1' imm' uw') e = let known = same_op o o' in grind (arith, common_steps)
same_instr (Op o rd rs1 rs2 uw) (Op o' rd' rs1' rs2' uw') e = let known = same_op o o' in grind (arith, common_steps)
same_instr Fence Fence e = refl
same_instr Ecall Ecall e = refl
same_instr Ebreak Ebreak e = refl
same_instr a b e = cc

pub returns : goal.returns
returns c = (
  λ e. same_instr _ _ (sym c.eq.ensures ∙ e),
  λ e. c.eq.ensures ∙ rw e (laws-law.refl c.args.b.now),
)
