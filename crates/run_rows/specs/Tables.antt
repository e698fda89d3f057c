-- The sequential tables: all rows of an air in the order of the steps, cut into instances and padded.
use Rattle.std.specs.Prelude.{ℕ, ◌-◌, ◌*◌, List, ◌++◌, map, take, drop, length, replicate, slice_index}
use Rattle.std.specs.List.{range_with_len}
use Rattle.gold.specs.declared.instances.Table.{Table}
use Rattle.zk_layout.specs.Air.{air_number, rows_per}
use Rattle.zk_layout.specs.declared.air.Air.{Air}
use Rattle.rv_model.specs.Image.{Img}
use Rattle.min_trace.specs.Record.{records_between}
use Rattle.min_trace.specs.declared.record.StepRecord.{StepRecord}
use Rattle.planner.specs.Rows.{with_row}
use Rattle.planner.specs.Jobs.{instances}

-- of the run's first n steps those that have a row of the air
abbrev pub records_of : Air → Img → ℕ → List StepRecord
records_of air image n = with_row air (records_between image 0 n)

-- and their rows, by the row that such a step has
abbrev pub rows_to : Air → (StepRecord → List ℕ) → Img → ℕ → List (List ℕ)
rows_to air row image n = map row (records_of air image n)

-- what falls to instance i of all that an air has: so many rows a piece
abbrev pub instance_of : {R : Type 0} → Air → ℕ → List R → List R
instance_of air i all = take (rows_per air) (drop (i * rows_per air) all)

-- values with zeros behind them, n altogether
abbrev pub padded : ℕ → List ℕ → List ℕ
padded n values = values ++ replicate (n - length values) 0

-- so many columns of n values: those of the rows, and zeros behind them
abbrev pub by_columns : ℕ → ℕ → List (List ℕ) → List (List ℕ)
by_columns width n rows = map (λ c. padded n (map (λ row. slice_index row c) rows)) (range_with_len 0 width)

-- instance i of the air, of so many columns, where these are all its rows
abbrev pub table_of : Air → ℕ → ℕ → List (List ℕ) → Table
table_of a width i rows = record { air = air_number a; instance = i; columns = by_columns width (rows_per a) (instance_of a i rows) }

-- all instances of the air
abbrev pub tables_of : Air → ℕ → List (List ℕ) → List Table
tables_of air width rows = map (λ i. table_of air width i rows) (range_with_len 0 (instances air (length rows)))
