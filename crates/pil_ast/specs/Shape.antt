-- The tables of a text: one air for each namespace, and how many of its columns they hold.
use Rattle.std.specs.Prelude.{◌^◌}
use Rattle.gold.specs.declared.shapes.AirShape.{AirShape}
use Rattle.pil_ast.specs.Term.{Namespace, width}

-- an air has its namespace's rows, and its constant and committed columns
abbrev pub air_shape : Namespace → AirShape
air_shape n = record { rows = n.rows; columns = width n.items; most = 2 ^ 20 }
