-- Lists of tables.
use Rattle.std.specs.Prelude.{List, All}
use Rattle.gold.specs.declared.instances.Table.{Table}
use Rattle.gold.specs.Field.{AreCanonical}

-- each value of each table is below p
abbrev pub HaveCanonical : List Table → Type 0
HaveCanonical tables = All (λ t. AreCanonical t.columns) tables
