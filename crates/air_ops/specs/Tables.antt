-- What a text and its columns have to be, so that rows of Binary and Shift mean something.
use Rattle.std.specs.Prelude.{ℕ, ◌/◌, ◌%◌, ◌<◌, ◌≤◌, ◌≡◌, List, length, slice_index}
use Rattle.pil_ast.specs.Term.{Line, Namespace, item_at}
use Rattle.pil_ast.specs.Columns.{Columns}
use Rattle.pil_ast.specs.Holds.{HoldsAt}
use Rattle.pil_exact.specs.Tables.{IsSingle}
use Rattle.step_rows.specs.ShiftRow.{table_row}
use Rattle.machine_text.specs.ShiftTab

-- ShiftTab's constants: 384 rows for the six shifts by 64 amounts, in that order, and no other row is selected. A look-up
-- of a shift's number and an amount thereby finds one row, which says all that depends on the two.
pub record ShiftTable (c : Columns) : Type 0 where
  pub single : IsSingle c ShiftTab.here 512
  pub row : (q k : ℕ) → q < 384 → k < 11 → c.at ShiftTab.here 0 k q ≡ slice_index (table_row (q / 64) (q % 64)) k
  pub rest : (q : ℕ) → 384 ≤ q → q < 512 → c.at ShiftTab.here 0 0 q ≡ 0

-- row r of instance i meets each of these lines
abbrev pub Meets : List Namespace → Columns → ℕ → ℕ → List Line → Type 0
Meets ns c i r items = (k : ℕ) → HoldsAt ns c i r (item_at items k)

-- row r of instance i of the namespace s has these values, from its first column on
abbrev pub HasRow : Columns → ℕ → ℕ → ℕ → List ℕ → Type 0
HasRow c s i r values = (k : ℕ) → k < length values → c.at s i k r ≡ slice_index values k
