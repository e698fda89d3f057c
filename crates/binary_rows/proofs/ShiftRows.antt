-- The cells of a shift are its row.
use Rattle.std.proofs.Common.{◌≡◌, ◌-◌, ℕ, map, refl, ap, sym, subst, ◌∙◌}
use Rattle.rv_word.specs.declared.instr.OpNo.{OpNo}
use Rattle.rv_word.specs.Numbers.{op_number}
use Rattle.zk_layout.specs.declared.air.Air.{Air}
use Rattle.zk_layout.specs.declared.air.Air.TheVariants.{Shift}
use Rattle.zk_layout.specs.Air.{columns_per}
use Rattle.rv_model.specs.Image.{Img}
use Rattle.rv_model.specs.Op.{value_of}
use Rattle.min_trace.specs.Laws.{first_of, Computes}
use Rattle.min_trace.specs.Record.{record_at}
use Rattle.min_trace.specs.declared.record.StepRecord.{StepRecord}
use Rattle.step_rows.specs.ShiftRow.{numbered_row}
use Rattle.run_rows.specs.Gathered.{IsRecordOf}
use Rattle.row_columns.specs.Cells.{AreRowOf}
use Rattle.binary_rows.specs.declared.shift.ShiftCell.{ShiftCell}
use Rattle.binary_rows.specs.declared.shift.TheConstants.{CELLS}
use Rattle.binary_rows.specs.ShiftCells.{cell_of, numbered, moved_by}

is_row : (n a b v : ℕ) → map (λ (c : ShiftCell). cell_of c (numbered n a b v)) CELLS ≡ numbered_row n a b v
unfolding cell_of
is_row n a b v = refl

computes : (image : Img) (r : StepRecord) → ((j : ℕ) → Computes (record_at image j)) → IsRecordOf image r → Computes r
computes image r law is = subst (λ (x : StepRecord). Computes x) (sym is.is) (law is.number)

of_shift : (image : Img) → ((j : ℕ) → Computes (record_at image j)) → AreRowOf cell_of moved_by CELLS Shift image
of_shift image law r is has =
    is_row (op_number r.op - 11) (first_of r) r.b r.c ∙ ap (numbered_row (op_number r.op - 11) (first_of r) r.b) (computes image r law is).0

pub are_rows : (air : Air) (image : Img) → ((j : ℕ) → Computes (record_at image j)) → air ≡ Shift → AreRowOf cell_of moved_by CELLS air image
are_rows air image law e = subst (λ (a : Air). AreRowOf cell_of moved_by CELLS a image) (sym e) (of_shift image law)

pub wide : (air : Air) → air ≡ Shift → 30 ≡ columns_per air
unfolding columns_per
wide air e = rw e refl
