-- The columns of an air hold the rows of a run's steps.
use Rattle.std.proofs.Common.{ℕ, ◌+◌, ◌*◌, ◌≤◌, ◌≡◌, List, length, map, refl, ap, ◌∙◌, subst}
use Rattle.std.specs.Prelude.{slice_index}
use Rattle.std.proofs.lemmas.List.{length-map}
use Rattle.std.proofs.lemmas.List.FromFn.{length-map-range_with_len}
use Rattle.zk_layout.specs.Air.{columns_per}
use Rattle.zk_layout.specs.Namespaces.{namespace_number, namespace_of}
use Rattle.zk_layout.specs.declared.air.Air.{Air}
use Rattle.zk_layout.specs.declared.air.Air.TheVariants.{Main, Binary, Shift, Arith, Align}
use Rattle.rv_model.specs.Image.{Img}
use Rattle.rv_model.specs.declared.answer.Public.{Public}
use Rattle.pil_ast.specs.Columns.{Columns}
use Rattle.pil_laws.specs.Table.{AreHeld, held}
use Rattle.fixed_cols.specs.declared.sizes.Sizes.{Sizes}
use Rattle.min_trace.specs.Record.{record_at, records_between}
use Rattle.min_trace.specs.declared.record.StepRecord.{StepRecord}
use Rattle.planner.specs.Rows.{has_row}
use Rattle.run_rows.specs.Tables.{records_of}
use Rattle.step_rows.specs.MainRow.{main_row}
use Rattle.step_rows.specs.Rows.{row_in}
use Rattle.air_main.specs.Table.{IsMainOf}
use Rattle.run_lines.specs.Rows.{rows_of, count_of, space_of, constants_of, HasRows, AreRunOf}
use Rattle.run_lines.proofs.Lists.{row_at, all_kept, value_there, value_past}

-- rows that are those of steps
held_of : (c : Columns) (air : Air) (row : StepRecord → List ℕ) (rs : List StepRecord) → length (map row rs) ≤ c.instances (space_of air) * c.rows (space_of air) → HasRows c air (map row rs)
    → AreHeld c (space_of air) (constants_of air) (columns_per air) (λ x k. slice_index (row x) k) rs
held_of c air row rs room has = record {
  room = subst (λ m. m ≤ c.instances (space_of air) * c.rows (space_of air)) (length-map rs row) room;
  each = λ i r k hi hr hk. has.each i r k hi hr hk ∙ row_at row rs (i * c.rows (space_of air) + r) k;
}

-- each step has a row of Main
pub main_records : (image : Img) (n : ℕ) → records_of Main image n ≡ records_between image 0 n
unfolding has_row
main_records image n = all_kept (has_row Main) (λ x. refl) (records_between image 0 n)

module _ (image : Img) (n : ℕ) (public : Public) (sizes : Sizes) (c : Columns) (are : AreRunOf image n public sizes c) where
  pub binary_held : AreHeld c 10 0 57 (λ x k. slice_index (row_in Binary x) k) (records_of Binary image n)
  unfolding namespace_number namespace_of constants_of columns_per rows_of count_of
  binary_held = held_of c Binary (row_in Binary) (records_of Binary image n) (are.room Binary) (are.rows Binary)

  pub shift_held : AreHeld c 11 0 30 (λ x k. slice_index (row_in Shift x) k) (records_of Shift image n)
  unfolding namespace_number namespace_of constants_of columns_per rows_of count_of
  shift_held = held_of c Shift (row_in Shift) (records_of Shift image n) (are.room Shift) (are.rows Shift)

  pub arith_held : AreHeld c 12 0 79 (λ x k. slice_index (row_in Arith x) k) (records_of Arith image n)
  unfolding namespace_number namespace_of constants_of columns_per rows_of count_of
  arith_held = held_of c Arith (row_in Arith) (records_of Arith image n) (are.room Arith) (are.rows Arith)

  pub align_held : AreHeld c 9 0 38 (λ x k. slice_index (row_in Align x) k) (records_of Align image n)
  unfolding namespace_number namespace_of constants_of columns_per rows_of count_of
  align_held = held_of c Align (row_in Align) (records_of Align image n) (are.room Align) (are.rows Align)

  main_rows_held : AreHeld c 6 8 37 (λ x k. slice_index (row_in Main x) k) (records_of Main image n)
  unfolding namespace_number namespace_of constants_of columns_per rows_of count_of
  main_rows_held = held_of c Main (row_in Main) (records_of Main image n) (are.room Main) (are.rows Main)

  pub main_held : AreHeld c 6 8 37 (λ x k. slice_index (main_row x) k) (records_between image 0 n)
  main_held = subst (λ rs. AreHeld c 6 8 37 (λ x k. slice_index (main_row x) k) rs) (main_records image n) main_rows_held

  pub main_of : IsMainOf c image n
  main_of = record {
    row = λ i r hi hr l k hk. main_held.each i r k hi hr hk ∙ ap (λ o. held (λ x k. slice_index (main_row x) k) o k) (value_there (record_at image) n (i * c.rows 6 + r) l);
    padding = λ i r hi hr l k hk. main_held.each i r k hi hr hk ∙ ap (λ o. held (λ x k. slice_index (main_row x) k) o k) (value_past (record_at image) n (i * c.rows 6 + r) l);
  }

  pub main_room : n ≤ c.instances 6 * c.rows 6
  main_room = subst (λ m. m ≤ c.instances 6 * c.rows 6) (length-map-range_with_len (record_at image) 0 n) main_held.room
