use Rattle.std.proofs.Common.{◌≡◌, ◌≤◌, max}
use Rattle.image_rows.specs.Found.{HasAllDoublewords}
use Rattle.image_rows.proofs.initial.Found.add_to.Given as goal

abbrev pub invariant-loop-number : goal.invariant-loop-number
invariant-loop-number l = record {
  found : HasAllDoublewords l.image l.self.doublewords.items l.number;
  below : l.self.below ≡ l.initial.self.below;
  at_most : l.number ≤ max l.initial.self.below l.to;
}
