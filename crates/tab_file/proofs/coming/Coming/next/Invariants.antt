use Rattle.std.proofs.Common.{◌≡◌, length, ◌-◌}
use Rattle.tab_file.specs.Parts.{left}
use Rattle.tab_file.proofs.coming.Coming.next.Given as goal

abbrev pub invariant-loop-self : goal.invariant-loop-self
invariant-loop-self l = record {
  airs : l.self.airs.items ≡ l.initial.self.airs.items;
  counts : l.self.counts.items ≡ l.initial.self.counts.items;
  left : left l.self ≡ left l.initial.self;
}

abbrev pub decreases-loop-self : goal.decreases-loop-self
decreases-loop-self l = length l.self.airs.items - l.self.number
