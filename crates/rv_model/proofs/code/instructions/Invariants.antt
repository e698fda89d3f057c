use Rattle.std.proofs.Common.{◌≡◌, length}
use Rattle.rv_model.specs.Code.{AreInstructions}
use Rattle.rv_model.proofs.code.instructions.Given as goal

abbrev pub invariant-loop-k : goal.invariant-loop-k
invariant-loop-k l = (length l.instrs.items ≡ l.k) × AreInstructions l.image l.start l.instrs.items
