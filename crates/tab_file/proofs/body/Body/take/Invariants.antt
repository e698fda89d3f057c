use Rattle.std.proofs.Common.{◌≡◌, ◌+◌, ◌-◌, ◌≤◌, ◌++◌, ℕ, suc, cond, List, length, drop}
use Rattle.gold.specs.Shapes.{Place}
use Rattle.gold.specs.declared.instances.Table.{Table}
use Rattle.tab_file.specs.Parts.{BodyAt, reach, left}
use Rattle.tab_file.proofs.body.Body.take.Given as goal

abbrev pub invariant-loop-self : goal.invariant-loop-self
invariant-loop-self l = record {
  count : l.done ≤ length l.piece;
  counts : l.self.coming.counts.items ≡ l.initial.self.coming.counts.items;
  reach : reach l.self.partial + (length l.piece - l.done) ≤ reach l.initial.self.partial + length l.piece;
  takes : (file : List ℕ) (n start : ℕ) (ps : List Place) (before : List Table) (more : List ℕ) → BodyAt file n start ps (before ++ l.initial.tables) (l.piece ++ more) l.initial.self → BodyAt file n start ps (before ++ l.tables) (drop l.done l.piece ++ more) l.self;
}

abbrev pub decreases-loop-self : goal.decreases-loop-self
decreases-loop-self l = cond l.self.going (suc (length (left l.self.coming))) 0
