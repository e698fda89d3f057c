use Rattle.std.proofs.Common.{◌≡◌, ◌+◌, ◌*◌, replicate}
use Rattle.std.specs.Int.{w64}
use Rattle.tab_file.specs.Items.{value_item}
use Rattle.tab_file.specs.Reading.{numbers_from}
use Rattle.tab_file.specs.Steps.{Pass}
use Rattle.tab_file.proofs.reading.column_at.Given as goal

abbrev pub invariant-loop : goal.invariant-loop
invariant-loop l = record {
  values : l.column ≡ numbers_from w64 l.bytes l.start l.counter;
  next : l.at ≡ l.start + 8 * l.counter;
  pass : Pass l.bytes l.start (replicate l.counter value_item) l.at;
}
