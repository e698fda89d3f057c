-- Shift: the six shifts, a row each (docs/CONSTRAINTS.md, "Shift").
--
-- The first operand stands as four digits of 16 bits, the second as its low six bits s and the rest t. A look-up of the
-- operation's number and s in ShiftTab gives all that depends on the two: the direction and kind rt, ar, ww, the number of
-- whole digits u, and the power of two m by which the digits are multiplied. h and l are what is above and below 2^16 of each
-- product, so that d0 to d3 put digits together again, and r0 to r3 move them by whole digits. For a shift to the right m is
-- 2^16 divided by the power, so that h takes the part of l. sb is the operand's sign, and ws that of a result of 32 bits.
--
-- The high limb of b, in the column bhi, is in no line: a shift doesn't read it. It has the range of a limb only because
-- Main sends it, so that what a row says of b is said where bhi is below 2^32.
use Rattle.std.specs.Prelude.{ℕ, ◌^◌, ◌<◌, ◌≡◌, ◌≢◌, ◌⊎◌, List, slice_index}
use Rattle.rv_word.specs.declared.instr.OpNo.{OpNo}
use Rattle.gold.specs.Field.{p}
use Rattle.zk_layout.specs.Air.{air_of}
use Rattle.zk_layout.specs.declared.air.Air.TheVariants as airs
use Rattle.step_rows.specs.Tuples.{op_tuple, IsOperationOf}
use Rattle.step_rows.specs.ShiftRow.{shift_row}
use Rattle.pil_ast.specs.Term.{Namespace, item_at, space_at}
use Rattle.pil_ast.specs.Columns.{Columns}
use Rattle.pil_ast.specs.Value.{around}
use Rattle.pil_ast.specs.Holds.{tuple, times, sent, Holds, AllHold}
use Rattle.pil_exact.specs.Exact.{HoldsExactly}
use Rattle.pil_exact.specs.Tables.{SmallTables}
use Rattle.machine_text.specs.Shift.{here, items, operation, space}
use Rattle.air_ops.specs.Tables.{ShiftTable, Meets, HasRow}

-- Shift stands in the text, the small tables and ShiftTab have their constants, and the values are those of a field.
pub record HasShift (ns : List Namespace) (c : Columns) : Type 0 where
  pub stands : space_at ns here ≡ space
  pub tables : SmallTables c
  pub amounts : ShiftTable c
  pub in_field : (s i k r : ℕ) → c.at s i k r < p

-- A selected row that meets the lines, and whose column bhi is a limb, has the tuple of one of the shifts.
abbrev pub IsSound : Type 0
IsSound = (ns : List Namespace) (c : Columns) (i r : ℕ) → HasShift ns c → Meets ns c i r items → c.at here i 0 r ≢ 0 → c.at here i 6 r < 2 ^ 32 → IsOperationOf airs.Shift (tuple ns c here i r operation.terms)

-- No wrap: where a row meets the lines, selected or not, each identity holds in whole numbers.
abbrev pub IsExact : Type 0
IsExact = (ns : List Namespace) (c : Columns) (i r : ℕ) → HasShift ns c → Meets ns c i r items → (k : ℕ) → HoldsExactly items (around ns c here i r) (item_at items k)

-- The row of a shift meets the lines, and has the shift's tuple.
abbrev pub IsComplete : Type 0
IsComplete =
    (ns : List Namespace) (c : Columns) (i r : ℕ) (o : OpNo) (a b : ℕ) → HasShift ns c → air_of o ≡ airs.Shift → a < 2 ^ 64 → b < 2 ^ 64 → HasRow c here i r (shift_row o a b)
    → Meets ns c i r items × (tuple ns c here i r operation.terms ≡ op_tuple o a b)

-- A row that isn't selected meets the lines, whatever its other values.
abbrev pub AllowsPadding : Type 0
AllowsPadding = (ns : List Namespace) (c : Columns) (i r : ℕ) → HasShift ns c → c.at here i 0 r ≡ 0 → Meets ns c i r items

-- Where a text holds, each tuple that Shift gives to Main's operations, and whose fifth number, b's high limb, is one, is that
-- of a shift.
abbrev pub SendsOperations : Type 0
SendsOperations = (ns : List Namespace) (c : Columns) (t : List ℕ) → HasShift ns c → AllHold ns c → times t (sent ns c operation) ≢ 0 → slice_index t 4 < 2 ^ 32 → IsOperationOf airs.Shift t

-- row r of instance i is that of a shift, or isn't selected
abbrev pub IsFilled : Columns → ℕ → ℕ → Type 0
IsFilled c i r = (c.at here i 0 r ≡ 0) ⊎ ((o : OpNo) × (a : ℕ) × (b : ℕ) × (air_of o ≡ airs.Shift) × (a < 2 ^ 64) × (b < 2 ^ 64) × HasRow c here i r (shift_row o a b))

-- Where each row is filled so, each line of Shift holds.
abbrev pub HoldsFilled : Type 0
HoldsFilled = (ns : List Namespace) (c : Columns) → HasShift ns c → ((i r : ℕ) → i < c.instances here → r < c.rows here → IsFilled c i r) → (k : ℕ) → Holds ns c (item_at items k)
