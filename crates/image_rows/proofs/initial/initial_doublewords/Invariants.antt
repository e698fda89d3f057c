use Rattle.std.proofs.Common.{ℕ, ◌<◌, ◌≤◌, get_or}
use Rattle.rv_model.specs.Image.{Seg}
use Rattle.rv_model.specs.declared.machine.TheConstants.{MEMORY_WORDS}
use Rattle.image_rows.specs.Found.{HasAllDoublewords, end_doubleword}
use Rattle.image_rows.proofs.initial.initial_doublewords.Given as goal

abbrev pub invariant-loop-segment : goal.invariant-loop-segment
invariant-loop-segment l = record {
  found : HasAllDoublewords l.image l.found.doublewords.items l.found.below;
  most : l.found.below ≤ MEMORY_WORDS;
  past : (j : ℕ) (d : Seg) → j < l.segment-index → end_doubleword (get_or l.segment-items j d) ≤ l.found.below;
}
