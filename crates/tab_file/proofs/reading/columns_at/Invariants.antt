use Rattle.std.proofs.Common.{◌≡◌, ◌+◌, ◌*◌, replicate}
use Rattle.tab_file.specs.Items.{value_item}
use Rattle.tab_file.specs.Steps.{Pass, columns_from}
use Rattle.tab_file.proofs.reading.columns_at.Given as goal

abbrev pub invariant-loop : goal.invariant-loop
invariant-loop l = record {
  values : l.columns ≡ columns_from l.bytes l.start l.counter l.form.rows;
  next : l.at ≡ l.start + 8 * (l.counter * l.form.rows);
  pass : Pass l.bytes l.start (replicate (l.counter * l.form.rows) value_item) l.at;
}
