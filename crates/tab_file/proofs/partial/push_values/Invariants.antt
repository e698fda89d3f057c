use Rattle.std.proofs.Common.{◌≡◌, ◌≤◌, ◌+◌, ◌++◌, ℕ, List, length, drop}
use Rattle.tab_file.specs.Parts.{Adds}
use Rattle.tab_file.proofs.partial.push_values.Given as goal

abbrev pub invariant-loop-i : goal.invariant-loop-i
invariant-loop-i l = record {
  len : length l.column ≡ length l.initial.column + l.i;
  adds : (file more : List ℕ) → l.at ≤ length file → drop l.at file ≡ l.bytes ++ more → Adds file l.at l.i l.initial.column l.column;
}
