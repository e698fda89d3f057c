use Rattle.std.proofs.Common.{◌≡◌, ◌+◌, ◌*◌, ◌≤◌, List, ◌++◌, length, drop}
use Rattle.std.specs.Int.{w32}
use Rattle.tab_file.specs.Items.{Item, first_failure, count_items}
use Rattle.tab_file.specs.Reading.{numbers_from}
use Rattle.tab_file.proofs.reading.counts.Given as goal

abbrev pub invariant-loop-air : goal.invariant-loop-air
invariant-loop-air l = record {
  values : l.counts.items ≡ numbers_from w32 l.bytes l.start l.air;
  next : l.at ≡ l.start + 4 * l.air;
  whole : l.at ≤ length l.bytes;
  rest : (more : List Item) → first_failure l.bytes l.start (count_items l.machine 0 l.airs ++ more) ≡ first_failure l.bytes l.at (count_items l.machine l.air (drop l.air l.airs) ++ more);
}
