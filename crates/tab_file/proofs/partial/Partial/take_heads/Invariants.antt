use Rattle.std.proofs.Common.{◌≡◌, ◌+◌, ◌-◌, ◌≤◌, ◌++◌, ℕ, List, length, drop}
use Rattle.gold.specs.Shapes.{Place}
use Rattle.tab_file.specs.Parts.{Grows, reach}
use Rattle.tab_file.proofs.partial.Partial.take_heads.Given as goal

abbrev pub invariant-loop-self : goal.invariant-loop-self
invariant-loop-self l = record {
  count : l.done ≤ length l.piece;
  reach : reach l.self + (length l.piece - l.done) ≤ reach l.initial.self + length l.piece;
  takes : (file : List ℕ) (begin n : ℕ) (p : Place) (more : List ℕ) → Grows file begin n p l.initial.self (l.piece ++ more) → Grows file begin n p l.self (drop l.done l.piece ++ more);
}

abbrev pub decreases-loop-self : goal.decreases-loop-self
decreases-loop-self l = 4 - l.self.heads
