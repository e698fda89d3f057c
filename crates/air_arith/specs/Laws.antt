-- What the lines of Arith say (docs/CONSTRAINTS.md).
use Rattle.std.specs.Prelude.{ℕ, ◌^◌, ◌<◌, ◌≡◌, ◌≢◌, ◌⊎◌, List, slice_index}
use Rattle.gold.specs.Field.{p}
use Rattle.rv_word.specs.declared.instr.OpNo.{OpNo}
use Rattle.zk_layout.specs.Air.{air_of}
use Rattle.zk_layout.specs.declared.air.Air.TheVariants as airs
use Rattle.pil_ast.specs.Term.{Namespace, item_at, space_at}
use Rattle.pil_ast.specs.Columns.{Columns}
use Rattle.pil_ast.specs.Value.{around}
use Rattle.pil_ast.specs.Holds.{tuple, times, sent, Holds, HoldsAt, AllHold}
use Rattle.pil_exact.specs.Exact.{HoldsExactly}
use Rattle.pil_exact.specs.Tables.{SmallTables}
use Rattle.machine_text.specs.Arith.{here, space, items, operation}
use Rattle.step_rows.specs.ArithRow.{arith_row}
use Rattle.step_rows.specs.Tuples.{op_tuple, IsOperationOf}

-- Arith stands in the text, the small tables have their constants, and the values are those of a field
pub record HasArith (ns : List Namespace) (c : Columns) : Type 0 where
  pub stands : space_at ns here ≡ space
  pub tables : SmallTables c
  pub in_field : (s i k r : ℕ) → c.at s i k r < p

-- row r of instance i meets each line of Arith
abbrev pub Meets : List Namespace → Columns → ℕ → ℕ → Type 0
Meets ns c i r = (j : ℕ) → HoldsAt ns c i r (item_at items j)

-- Soundness: a selected row has the tuple of a product, a quotient or a remainder.
abbrev pub ArithSound : Type 0
ArithSound = (ns : List Namespace) (c : Columns) (i r : ℕ) → HasArith ns c → Meets ns c i r → c.at here i 0 r ≢ 0 → IsOperationOf airs.Arith (tuple ns c here i r operation.terms)

-- No wrap: each identity holds in whole numbers, at each row.
abbrev pub ArithExact : Type 0
ArithExact = (ns : List Namespace) (c : Columns) (i r : ℕ) → HasArith ns c → Meets ns c i r → (j : ℕ) → HoldsExactly items (around ns c here i r) (item_at items j)

-- row r of instance i is that of an operation
abbrev pub IsRowOf : Columns → ℕ → ℕ → OpNo → ℕ → ℕ → Type 0
IsRowOf c i r o a b = (j : ℕ) → j < 79 → c.at here i j r ≡ slice_index (arith_row o a b) j

-- Completeness: the row of an operation on numbers of 64 bits meets the lines and has its tuple.
abbrev pub ArithComplete : Type 0
ArithComplete =
    (ns : List Namespace) (c : Columns) (i r : ℕ) (o : OpNo) (a b : ℕ) → HasArith ns c → air_of o ≡ airs.Arith → a < 2 ^ 64 → b < 2 ^ 64 → IsRowOf c i r o a b → Meets ns c i r × (tuple ns c here i r operation.terms ≡ op_tuple o a b)

-- So does a row that isn't selected, whatever its other values are.
abbrev pub ArithPadding : Type 0
ArithPadding = (ns : List Namespace) (c : Columns) (i r : ℕ) → HasArith ns c → c.at here i 0 r ≡ 0 → Meets ns c i r

-- Where a text holds, each tuple that Arith has for Main is that of one of its operations.
abbrev pub ArithSent : Type 0
ArithSent = (ns : List Namespace) (c : Columns) (t : List ℕ) → HasArith ns c → AllHold ns c → times t (sent ns c operation) ≢ 0 → IsOperationOf airs.Arith t

-- a row of an operation, or one that isn't selected
abbrev pub IsFilled : Columns → ℕ → ℕ → Type 0
IsFilled c i r = (c.at here i 0 r ≡ 0) ⊎ ((o : OpNo) × (a : ℕ) × (b : ℕ) × (air_of o ≡ airs.Arith) × (a < 2 ^ 64) × (b < 2 ^ 64) × IsRowOf c i r o a b)

-- Where all rows are so filled, each line of Arith holds.
abbrev pub ArithFilled : Type 0
ArithFilled =
    (ns : List Namespace) (c : Columns) → HasArith ns c → ((i r : ℕ) → i < c.instances here → r < c.rows here → IsFilled c i r) → (j : ℕ) → Holds ns c (item_at items j)
