use Rattle.std.proofs.Common.{◌≡◌, take}
use Rattle.row_columns.specs.Cells.{filled}
use Rattle.row_columns.proofs.columns.columns_of.Given as goal

abbrev pub invariant-loop-cell : goal.invariant-loop-cell
invariant-loop-cell g l = l.columns ≡ filled g.C.Cell.value l.rows (take l.cell-index l.cells) l.items
