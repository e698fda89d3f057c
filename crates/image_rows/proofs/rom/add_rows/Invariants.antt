use Rattle.std.proofs.Common.{◌≤◌, max}
use Rattle.image_rows.specs.Found.{HasAllRows}
use Rattle.image_rows.proofs.rom.add_rows.Given as goal

abbrev pub invariant-loop-k : goal.invariant-loop-k
invariant-loop-k l = record {
  found : HasAllRows l.image l.rows.items l.k;
  at_most : l.k ≤ max l.from l.to;
}
