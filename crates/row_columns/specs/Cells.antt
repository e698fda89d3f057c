-- Columns by cells: each cell of a row is a function of what the row is made of.
use Rattle.std.specs.Prelude.{◌≡◌, ℕ, Bool, true, List, map}
use Rattle.gold.specs.declared.instances.Table.{Table}
use Rattle.zk_layout.specs.Air.{columns_per}
use Rattle.zk_layout.specs.declared.air.Air.{Air}
use Rattle.rv_model.specs.Image.{Img}
use Rattle.min_trace.specs.declared.record.StepRecord.{StepRecord}
use Rattle.min_trace.specs.Chunk.{Piece}
use Rattle.planner.specs.declared.job.Job.{Job}
use Rattle.planner.specs.Rows.{has_row}
use Rattle.step_rows.specs.Rows.{row_in}
use Rattle.run_rows.specs.Runs.{IsJobOf}
use Rattle.run_rows.specs.Tables.{padded, table_of, rows_to}
use Rattle.run_rows.specs.Gathered.{IsRecordOf}

-- a column of n values for each cell: those of the rows, and zeros behind them
abbrev pub filled : {C X : Type 0} → (C → X → ℕ) → ℕ → List C → List X → List (List ℕ)
filled value n cells items = map (λ c. padded n (map (value c) items)) cells

-- of each step of the image's run that has a row of the air, the cells are the row
abbrev pub AreRowOf : {C X : Type 0} → (C → X → ℕ) → (StepRecord → X) → List C → Air → Img → Type 0
AreRowOf value taken cells air image = (r : StepRecord) → IsRecordOf image r → has_row air r ≡ true → map (λ c. value c (taken r)) cells ≡ row_in air r

-- the job's instance of the air's table, however many steps of the run there are
abbrev pub IsTableOf : Air → Img → Job → List Piece → Table → Type 0
IsTableOf air image job chunks t = (n : ℕ) → IsJobOf image n job chunks → t ≡ table_of air (columns_per air) job.instance (rows_to air (row_in air) image n)
