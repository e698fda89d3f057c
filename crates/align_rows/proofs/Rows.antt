-- The cells of an access are its row.
use Rattle.std.proofs.lemmas.Bool.{false≢true}
use Rattle.std.proofs.Common.{◌≡◌, ℕ, true, Option, None, Some, map, refl, sym, subst}
use Rattle.std.specs.Prelude.{is_some}
use Rattle.zk_layout.specs.declared.air.Air.{Air}
use Rattle.zk_layout.specs.declared.air.Air.TheVariants.{Align}
use Rattle.zk_layout.specs.Air.{columns_per}
use Rattle.rv_model.specs.Image.{Img}
use Rattle.min_trace.specs.declared.record.MemAct.{MemAct}
use Rattle.planner.specs.Rows.{has_row}
use Rattle.step_rows.specs.Rows.{access_row}
use Rattle.row_columns.specs.Cells.{AreRowOf}
use Rattle.align_rows.specs.declared.cells.AlignCell.{AlignCell}
use Rattle.align_rows.specs.declared.cells.TheConstants.{CELLS}
use Rattle.align_rows.specs.Cells.{cell_of, accessed_by, accessed}

is_row : (act : Option MemAct) (value : ℕ) → is_some act ≡ true → map (λ (c : AlignCell). cell_of c (accessed_by act value)) CELLS ≡ access_row act value
unfolding cell_of
is_row None value h = absurd (false≢true h)
is_row (Some m) value h = refl

of_align : (image : Img) → AreRowOf cell_of accessed CELLS Align image
unfolding has_row
of_align image r is has = is_row r.mem r.s has

pub are_rows : (air : Air) (image : Img) → air ≡ Align → AreRowOf cell_of accessed CELLS air image
are_rows air image e = subst (λ (a : Air). AreRowOf cell_of accessed CELLS a image) (sym e) (of_align image)

pub wide : (air : Air) → air ≡ Align → 38 ≡ columns_per air
unfolding columns_per
wide air e = rw e refl
