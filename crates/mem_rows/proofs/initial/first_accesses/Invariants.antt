use Rattle.std.proofs.Common.{ℕ, ◌<◌, get_or}
use Rattle.rv_model.specs.Image.{Seg}
use Rattle.mem_rows.specs.Initial.{IsPart, IsWritten}
use Rattle.mem_rows.proofs.initial.first_accesses.Given as goal

abbrev pub invariant-loop-segment : goal.invariant-loop-segment
invariant-loop-segment l = record {
  part : IsPart l.image l.accesses;
  written : (j : ℕ) (d : Seg) → j < l.segment-index → IsWritten l.image l.accesses (get_or l.segment-items j d);
}
