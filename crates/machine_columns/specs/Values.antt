-- The values of which the machine's text speaks, of an image and tables: the tables' columns behind the constant ones.
use Rattle.std.specs.Prelude.{ℕ, ◌-◌, ◌&&◌, nat_lt, if◌then◌else◌}
use Rattle.gold.specs.Shapes.{counts_from}
use Rattle.gold.specs.declared.instances.Witness.{Witness}
use Rattle.rv_model.specs.Image.{Img}
use Rattle.zk_layout.specs.Air.{air_number}
use Rattle.zk_layout.specs.declared.air.Air.TheVariants as airs
use Rattle.zk_layout.specs.Namespaces.{namespace_at}
use Rattle.zk_layout.specs.declared.namespace.Namespace.{Namespace}
use Rattle.zk_layout.specs.declared.namespace.Namespace.TheVariants as spaces
use Rattle.pil_ast.specs.Term.{space_at, width}
use Rattle.pil_ast.specs.Columns.{Columns}
use Rattle.wit_columns.specs.Values.{value_at}
use Rattle.machine_text.specs.Machine.{machine}
use Rattle.fixed_cols.specs.declared.sizes.Sizes.{Sizes}
use Rattle.fixed_cols.specs.Constants.{constant, instances_of}

-- the tables' profile, and how many there are of each air
abbrev pub sizes_of : Witness → Sizes
sizes_of witness = record { profile = witness.profile; counts = counts_from 0 7 witness.tables }

-- how many of a namespace's columns are constant; they stand first
unfoldable pub constants_per : Namespace → ℕ
constants_per spaces.Bit = 1
constants_per spaces.Range16 = 1
constants_per spaces.BinTab = 3
constants_per spaces.ShiftTab = 11
constants_per spaces.Rom = 22
constants_per spaces.Init = 4
constants_per spaces.Main = 8
constants_per spaces.Mem = 5
constants_per spaces.Out = 2
constants_per spaces.Align = 0
constants_per spaces.Binary = 0
constants_per spaces.Shift = 0
constants_per spaces.Arith = 0

-- the value of a column of an air that the tables hold; other namespaces have none
unfoldable pub held : Witness → Namespace → ℕ → ℕ → ℕ → ℕ
held witness spaces.Bit i k r = 0
held witness spaces.Range16 i k r = 0
held witness spaces.BinTab i k r = 0
held witness spaces.ShiftTab i k r = 0
held witness spaces.Rom i k r = 0
held witness spaces.Init i k r = 0
held witness spaces.Main i k r = value_at witness.tables (air_number airs.Main) i k r
held witness spaces.Mem i k r = value_at witness.tables (air_number airs.Mem) i k r
held witness spaces.Out i k r = value_at witness.tables (air_number airs.Out) i k r
held witness spaces.Align i k r = value_at witness.tables (air_number airs.Align) i k r
held witness spaces.Binary i k r = value_at witness.tables (air_number airs.Binary) i k r
held witness spaces.Shift i k r = value_at witness.tables (air_number airs.Shift) i k r
held witness spaces.Arith i k r = value_at witness.tables (air_number airs.Arith) i k r

-- the value of a column of a namespace: a constant, or one that the tables hold
abbrev pub cell : Img → Witness → Namespace → ℕ → ℕ → ℕ → ℕ
cell image witness space i k r = if nat_lt k (constants_per space) then constant image (sizes_of witness) space i k r else held witness space i (k - constants_per space) r

-- the instances, columns and rows that each namespace has
abbrev pub instances_at : Img → Witness → ℕ → ℕ
instances_at image witness s = instances_of image (sizes_of witness) (namespace_at s)

abbrev pub width_at : Witness → ℕ → ℕ
width_at witness s = width (space_at (machine witness.profile) s).items

abbrev pub rows_at : Witness → ℕ → ℕ
rows_at witness s = (space_at (machine witness.profile) s).rows

-- and the value at a place; 0 at a place that isn't there
unfoldable pub value_in : Img → Witness → ℕ → ℕ → ℕ → ℕ → ℕ
value_in image witness s i k r =
    if nat_lt s 13 && (nat_lt i (instances_at image witness s) && (nat_lt k (width_at witness s) && nat_lt r (rows_at witness s))) then cell image witness (namespace_at s) i k r else 0

abbrev pub values_of : Img → Witness → Columns
values_of image witness = record {
  spaces = 13;
  instances = instances_at image witness;
  width = width_at witness;
  rows = rows_at witness;
  at = value_in image witness;
}
