-- The airs (docs/MACHINE.md).
use Rattle.std.specs.Prelude.{ℕ, ◌^◌, nat_le, if◌then◌else◌, List, [], ◌∷◌, map}
use Rattle.gold.specs.declared.shapes.AirShape.{AirShape}
use Rattle.gold.specs.declared.shapes.Form.{Form}
use Rattle.gold.specs.declared.shapes.Profile.{Profile}
use Rattle.gold.specs.declared.shapes.Profile.TheVariants.{Small, Wide}
use Rattle.gold.specs.declared.shapes.Shape.{Shape}
use Rattle.gold.specs.Shapes.{widened}
use Rattle.rv_word.specs.declared.instr.OpNo.{OpNo}
use Rattle.rv_word.specs.Numbers.{op_number}
use Rattle.zk_layout.specs.declared.air.Air.{Air}
use Rattle.zk_layout.specs.declared.air.Air.TheVariants.{Main, Mem, Binary, Shift, Arith, Align, Out}

-- the number in a table file
unfoldable pub air_number : Air → ℕ
air_number Main = 0
air_number Mem = 1
air_number Binary = 2
air_number Shift = 3
air_number Arith = 4
air_number Align = 5
air_number Out = 6

-- the rows of one instance in profile Small
unfoldable pub rows_per : Air → ℕ
rows_per Main = 4096
rows_per Mem = 8192
rows_per Binary = 4096
rows_per Shift = 1024
rows_per Arith = 1024
rows_per Align = 2048
rows_per Out = 64

-- the columns in a table file
unfoldable pub columns_per : Air → ℕ
columns_per Main = 37
columns_per Mem = 15
columns_per Binary = 57
columns_per Shift = 30
columns_per Arith = 79
columns_per Align = 38
columns_per Out = 2

-- the most instances in profile Small
unfoldable pub most_per : Air → ℕ
most_per Main = 2 ^ 20
most_per Mem = 2 ^ 22
most_per Binary = 2 ^ 20
most_per Shift = 2 ^ 22
most_per Arith = 2 ^ 22
most_per Align = 2 ^ 21
most_per Out = 1

-- the rows, columns and most instances in profile Small
abbrev pub air_shape : Air → AirShape
air_shape air = record { rows = rows_per air; columns = columns_per air; most = most_per air }

-- the same in a profile: Wide has a Main of its own, and every other air is Small's
abbrev pub shape_in : Profile → Air → AirShape
shape_in Small air = air_shape air
shape_in Wide Main = widened (air_shape Main)
shape_in Wide Mem = air_shape Mem
shape_in Wide Binary = air_shape Binary
shape_in Wide Shift = air_shape Shift
shape_in Wide Arith = air_shape Arith
shape_in Wide Align = air_shape Align
shape_in Wide Out = air_shape Out

-- the rows of one instance in a profile
abbrev pub rows_in : Profile → Air → ℕ
rows_in profile air = (shape_in profile air).rows

-- the airs in the order of their numbers
abbrev pub airs : List Air
airs = Main ∷ Mem ∷ Binary ∷ Shift ∷ Arith ∷ Align ∷ Out ∷ []

-- the shapes of the machine's airs, in the order of their numbers
abbrev pub machine_airs : List AirShape
machine_airs = map air_shape airs

-- the machine's shape of a form
abbrev pub machine_shape_of : Form → Shape
machine_shape_of form = record { airs = machine_airs; form = form }

-- operations 1 to 10 and 30 to 34 are Binary's, 11 to 16 Shift's, 17 to 29 Arith's
unfoldable pub air_of : OpNo → Air
air_of op =
    if nat_le (op_number op) 10 then Binary
    else if nat_le (op_number op) 16 then Shift
    else if nat_le (op_number op) 29 then Arith
    else Binary
