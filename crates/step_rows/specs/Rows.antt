-- The row of a step in each air that has one (docs/WITNESS.md, "Values").
use Rattle.std.specs.Prelude.{ℕ, List, [], Option, None, Some}
use Rattle.zk_layout.specs.declared.air.Air.{Air}
use Rattle.zk_layout.specs.declared.air.Air.TheVariants.{Main, Mem, Binary, Shift, Arith, Align, Out}
use Rattle.min_trace.specs.Laws.{first_of}
use Rattle.min_trace.specs.declared.record.MemAct.{MemAct}
use Rattle.min_trace.specs.declared.record.StepRecord.{StepRecord}
use Rattle.step_rows.specs.MainRow.{main_row}
use Rattle.step_rows.specs.BinaryRow.{binary_row}
use Rattle.step_rows.specs.ShiftRow.{shift_row}
use Rattle.step_rows.specs.ArithRow.{arith_row}
use Rattle.step_rows.specs.AlignRow.{align_row}

-- the row of a load or a store, whose value is rs2's
abbrev pub access_row : Option MemAct → ℕ → List ℕ
access_row None value = []
access_row (Some m) value = align_row m.kind m.off m.old value

-- the row of a step that has one in the air; Mem's and Out's rows are no step's
abbrev pub row_in : Air → StepRecord → List ℕ
row_in Main r = main_row r
row_in Binary r = binary_row r.op (first_of r) r.b
row_in Shift r = shift_row r.op (first_of r) r.b
row_in Arith r = arith_row r.op (first_of r) r.b
row_in Align r = access_row r.mem r.s
row_in Mem r = []
row_in Out r = []
