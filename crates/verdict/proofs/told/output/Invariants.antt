use Rattle.std.proofs.Common.{◌≡◌, ◌*◌, take, length}
use Rattle.rv_model.specs.declared.machine.TheConstants.{OUTPUT_LEN}
use Rattle.verdict.specs.Told.{told_bytes}
use Rattle.verdict.proofs.told.output.Given as goal

abbrev pub invariant-loop-i : goal.invariant-loop-i
invariant-loop-i l = (length l.output ≡ OUTPUT_LEN) × (take (8 * l.i) l.output ≡ told_bytes l.table l.i)
