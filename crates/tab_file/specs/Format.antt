-- The table file: the text of tables in format 1 and in format 2 (docs/TABLES.md). All numbers are little-endian.
use Rattle.std.specs.Prelude.{ℕ, List, ◌++◌, length, slice_get, codes}
use Rattle.std.specs.Int.{w32, w64, to_le_bytes}
use Rattle.std.specs.List.{flat_map}
use Rattle.std.specs.Option.{option_map_or}
use Rattle.gold.specs.declared.instances.Table.{Table}
use Rattle.gold.specs.declared.instances.Witness.{Witness}
use Rattle.gold.specs.declared.shapes.AirShape.{AirShape}
use Rattle.gold.specs.declared.shapes.Form.{Form}
use Rattle.gold.specs.declared.shapes.Form.TheVariants.{Plain, One, Two}
use Rattle.gold.specs.declared.shapes.Profile.{Profile}
use Rattle.gold.specs.declared.shapes.Profile.TheVariants.{Small, Wide}
use Rattle.gold.specs.declared.shapes.Shape.{Shape}
use Rattle.gold.specs.Shapes.{airs_of, counts_of}

-- a number of 32 bits
abbrev pub number : ℕ → List ℕ
number n = to_le_bytes w32 n

-- a value of 64 bits
abbrev pub value : ℕ → List ℕ
value v = to_le_bytes w64 v

-- a profile in format 2
abbrev pub profile_number : Profile → ℕ
profile_number Small = 1
profile_number Wide = 2

-- the version, and in format 2 the profile
abbrev pub version : Form → Profile → List ℕ
version Plain profile = number 1
version One profile = number 1
version Two profile = number 2 ++ number (profile_number profile)

-- the magic, the version, the number of airs, and the number of instances of each
abbrev pub header : Form → Profile → ℕ → List ℕ → List ℕ
header form profile airs counts = codes "ZKWT" ++ version form profile ++ number airs ++ flat_map number counts

-- an instance of so many rows: its air and number, its columns and rows, and each column's values in order
abbrev pub instance_text : ℕ → Table → List ℕ
instance_text rows t =
    number t.air ++ number t.instance ++ number (length t.columns) ++ number rows ++ flat_map (flat_map value) t.columns

-- the number of rows of an air
abbrev pub rows_at : List AirShape → ℕ → ℕ
rows_at airs a = option_map_or (λ f. f.rows) (slice_get airs a) 0

-- instances of such airs, one after the other
abbrev pub instances_text : List AirShape → List Table → List ℕ
instances_text airs tables = flat_map (λ t. instance_text (rows_at airs t.air) t) tables

-- the text of tables of a shape: in format 2 where its form is Two, and else in format 1
abbrev pub text : Shape → Witness → List ℕ
text shape witness =
    header shape.form witness.profile (length shape.airs) (counts_of shape witness)
    ++ instances_text (airs_of shape witness) witness.tables
