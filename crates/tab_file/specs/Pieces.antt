-- The pieces in which a machine's tables are written: what stands before the instances, and each instance.
use Rattle.std.specs.Prelude.{ℕ, List, ◌<◌, ◌^◌, length}
use Rattle.gold.specs.declared.instances.Table.{Table}
use Rattle.gold.specs.declared.instances.Witness.{Witness}
use Rattle.gold.specs.declared.shapes.Form.TheVariants.{Two}
use Rattle.gold.specs.Shapes.{counts_from}
use Rattle.tab_file.specs.Format.{header, instance_text}
use Rattle.tab_file.specs.Steps.{height}

-- the magic, the version, the profile, and the numbers of instances
unfoldable pub head_text : Witness → List ℕ
head_text witness = header Two witness.profile 7 (counts_from 0 7 witness.tables)

-- an instance, whose first column tells its rows
unfoldable pub table_text : Table → List ℕ
table_text t = instance_text (height t.columns) t

-- its numbers of columns and of rows have 32 bits
pub record IsSmall (t : Table) : Type 0 where
  pub columns : length t.columns < 2 ^ 32
  pub rows : height t.columns < 2 ^ 32
