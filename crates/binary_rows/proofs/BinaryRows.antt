-- The cells of an operation are its row.
use Rattle.std.proofs.Common.{◌≡◌, ℕ, map, refl, sym, subst}
use Rattle.rv_word.specs.declared.instr.OpNo.{OpNo}
use Rattle.zk_layout.specs.declared.air.Air.{Air}
use Rattle.zk_layout.specs.declared.air.Air.TheVariants.{Binary}
use Rattle.zk_layout.specs.Air.{columns_per}
use Rattle.rv_model.specs.Image.{Img}
use Rattle.min_trace.specs.Laws.{first_of}
use Rattle.step_rows.specs.BinaryRow.{binary_row}
use Rattle.row_columns.specs.Cells.{AreRowOf}
use Rattle.binary_rows.specs.declared.binary.BinaryCell.{BinaryCell}
use Rattle.binary_rows.specs.declared.binary.TheConstants.{CELLS}
use Rattle.binary_rows.specs.BinaryCells.{cell_of, computed, computed_by}

is_row : (o : OpNo) (a b : ℕ) → map (λ (c : BinaryCell). cell_of c (computed o a b)) CELLS ≡ binary_row o a b
unfolding cell_of
is_row o a b = refl

of_binary : (image : Img) → AreRowOf cell_of computed_by CELLS Binary image
of_binary image r is has = is_row r.op (first_of r) r.b

pub are_rows : (air : Air) (image : Img) → air ≡ Binary → AreRowOf cell_of computed_by CELLS air image
are_rows air image e = subst (λ (a : Air). AreRowOf cell_of computed_by CELLS a image) (sym e) (of_binary image)

pub wide : (air : Air) → air ≡ Binary → 57 ≡ columns_per air
unfolding columns_per
wide air e = rw e refl
