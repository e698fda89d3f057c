use Rattle.std.proofs.Common.{refl}
use Rattle.tab_file.proofs.Values.{table_whole}
use Rattle.tab_file.proofs.partial.Partial.take_table.Goals as goal

pub returns-clause-table : goal.returns-clause-table
returns-clause-table c file begin n q more s = table_whole file begin n q c.args.self.now more _ s c.requires refl refl c.replace-columns.ensures.value
