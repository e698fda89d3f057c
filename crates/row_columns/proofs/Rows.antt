-- The table of a job's steps is the sequential one.
use Rattle.std.proofs.Common.{◌≡◌, ◌*◌, ℕ, true, List, length, get_or, take, drop, map, refl, ap, sym, ◌∙◌}
use Rattle.std.specs.List.{All}
use Rattle.std.proofs.lemmas.List.{take-map, drop-map}
use Rattle.gold.specs.declared.instances.Table.{Table}
use Rattle.zk_layout.specs.declared.air.Air.{Air}
use Rattle.zk_layout.specs.Air.{air_number, rows_per}
use Rattle.rv_model.specs.Image.{Img}
use Rattle.min_trace.specs.declared.record.StepRecord.{StepRecord}
use Rattle.planner.specs.Rows.{has_row}
use Rattle.step_rows.specs.Rows.{row_in}
use Rattle.run_rows.specs.Tables.{padded, records_of, instance_of, rows_to, by_columns, table_of}
use Rattle.run_rows.specs.Gathered.{steps_of, IsRecordOf}
use Rattle.row_columns.specs.Cells.{filled, AreRowOf}
use Rattle.row_columns.proofs.Lists.{map_map, map_same, columns_are}

all_rows : {C X : Type 0} (value : C → X → ℕ) (taken : StepRecord → X) (cells : List C) (air : Air) (image : Img) (rs : List StepRecord) → AreRowOf value taken cells air image → All (IsRecordOf image) rs → All (λ r. has_row air r ≡ true) rs
    → All (λ r. map (λ c. value c (taken r)) cells ≡ row_in air r) rs
all_rows value taken cells air image rs h are have k d lt = h (get_or rs k d) (are k d lt) (have k d lt)

instance_rows : (air : Air) (image : Img) (n i : ℕ) → map (row_in air) (steps_of air image n i) ≡ instance_of air i (rows_to air (row_in air) image n)
instance_rows air image n i =
    sym (take-map (row_in air) (rows_per air) (drop (i * rows_per air) (records_of air image n))) ∙ ap (take (rows_per air)) (sym (drop-map (row_in air) (i * rows_per air) (records_of air image n)))

columns : {C X : Type 0} (value : C → X → ℕ) (taken : StepRecord → X) (cells : List C) (air : Air) (width : ℕ) (image : Img) (n i : ℕ) (found : List X) (made : List (List ℕ)) → AreRowOf value taken cells air image → length cells ≡ width → All (IsRecordOf image) (steps_of air image n i) → All (λ r. has_row air r ≡ true) (steps_of air image n i)
    → found ≡ map taken (steps_of air image n i) → made ≡ filled value (rows_per air) cells found → made ≡ by_columns width (rows_per air) (instance_of air i (rows_to air (row_in air) image n))
columns value taken cells air width image n i found made h long are have e is =
    let rs = steps_of air image n i in
    is ∙ ap (filled value (rows_per air) cells) e
    ∙ map_same (λ c. padded (rows_per air) (map (value c) (map taken rs))) (λ c. padded (rows_per air) (map (λ r. value c (taken r)) rs)) (λ c. ap (padded (rows_per air)) (map_map (value c) taken rs)) cells
    ∙ columns_are (rows_per air) width (λ c r. value c (taken r)) (row_in air) cells rs long (all_rows value taken cells air image rs h are have)
    ∙ ap (by_columns width (rows_per air)) (instance_rows air image n i)

same_table : (a b i : ℕ) (cs ds : List (List ℕ)) → a ≡ b → cs ≡ ds → ◌≡◌ {A = Table} (record { air = a; instance = i; columns = cs }) (record { air = b; instance = i; columns = ds })
same_table a b i cs ds e h = rw (e, h) refl

pub sequential : {C X : Type 0} (value : C → X → ℕ) (taken : StepRecord → X) (cells : List C) (air : Air) (width : ℕ) (image : Img) (n i : ℕ) (found : List X) (number : ℕ) (made : List (List ℕ)) → AreRowOf value taken cells air image → length cells ≡ width → All (IsRecordOf image) (steps_of air image n i) → All (λ r. has_row air r ≡ true) (steps_of air image n i)
    → found ≡ map taken (steps_of air image n i) → number ≡ air_number air → made ≡ filled value (rows_per air) cells found
    → ◌≡◌ {A = Table} (record { air = number; instance = i; columns = made }) (table_of air width i (rows_to air (row_in air) image n))
sequential value taken cells air width image n i found number made h long are have e a is = same_table _ _ i _ _ a (columns value taken cells air width image n i found made h long are have e is)
