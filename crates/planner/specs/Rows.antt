-- The rows that steps have of each air.
use Rattle.std.specs.Prelude.{ℕ, ◌+◌, ◌==◌, ◌≤◌, List, length, Bool, true, false, filter, is_some}
use Rattle.zk_layout.specs.Air.{air_number, air_of}
use Rattle.zk_layout.specs.declared.air.Air.{Air}
use Rattle.zk_layout.specs.declared.air.Air.TheVariants.{Main, Mem, Binary, Shift, Arith, Align, Out}
use Rattle.min_trace.specs.declared.chunk.TheConstants.{STEPS_PER_CHUNK}
use Rattle.min_trace.specs.declared.record.StepRecord.{StepRecord}
use Rattle.planner.specs.declared.counts.Counts.{Counts}

-- the step's operation is one of the air's
abbrev pub is_of : Air → StepRecord → Bool
is_of air r = air_number (air_of r.op) == air_number air

-- the step has a row of the air: each has one of Main, one of the air of its operation, and a load and a store one of
-- Align; the rows of Mem and Out aren't those of single steps
unfoldable pub has_row : Air → StepRecord → Bool
has_row Main r = true
has_row Mem r = false
has_row Binary r = is_of Binary r
has_row Shift r = is_of Shift r
has_row Arith r = is_of Arith r
has_row Align r = is_some r.mem
has_row Out r = false

-- the steps that have a row of the air, in order
abbrev pub with_row : Air → List StepRecord → List StepRecord
with_row air rs = filter (has_row air) rs

-- how many rows some steps have of each air
unfoldable pub counted : List StepRecord → Counts
counted rs = record {
  steps = length (with_row Main rs);
  binary = length (with_row Binary rs);
  shift = length (with_row Shift rs);
  arith = length (with_row Arith rs);
  align = length (with_row Align rs);
}

abbrev pub sum_of : Counts → Counts → Counts
sum_of a b = record { steps = a.steps + b.steps; binary = a.binary + b.binary; shift = a.shift + b.shift; arith = a.arith + b.arith; align = a.align + b.align }

-- the rows that a chunk has of the air, by its counts
unfoldable pub rows_in : Air → Counts → ℕ
rows_in Main c = c.steps
rows_in Mem c = 0
rows_in Binary c = c.binary
rows_in Shift c = c.shift
rows_in Arith c = c.arith
rows_in Align c = c.align
rows_in Out c = 0

-- a step has at most one row of each air
pub record IsOfChunk (c : Counts) : Type 0 where
  pub main : c.steps ≤ STEPS_PER_CHUNK
  pub sums : c.binary ≤ STEPS_PER_CHUNK
  pub shifts : c.shift ≤ STEPS_PER_CHUNK
  pub products : c.arith ≤ STEPS_PER_CHUNK
  pub accesses : c.align ≤ STEPS_PER_CHUNK
