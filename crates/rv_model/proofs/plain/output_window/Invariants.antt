use Rattle.std.proofs.Common.{◌≡◌, ◌*◌, take, length}
use Rattle.rv_model.specs.Plain.{word_of}
use Rattle.rv_model.specs.declared.machine.TheConstants.{OUTPUT_LEN}
use Rattle.rv_model.specs.Run.{window}
use Rattle.rv_model.proofs.plain.output_window.Given as goal

abbrev pub invariant-loop-i : goal.invariant-loop-i
invariant-loop-i l = (length l.output ≡ OUTPUT_LEN) × (take (8 * l.i) l.output ≡ window (word_of l.image l.words.entries) l.i)
