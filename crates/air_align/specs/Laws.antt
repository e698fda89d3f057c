-- What the lines of Align say (docs/CONSTRAINTS.md).
use Rattle.std.specs.Prelude.{ℕ, ◌%◌, ◌^◌, ◌<◌, ◌≡◌, ◌≢◌, ◌⊎◌, List, slice_index}
use Rattle.gold.specs.Field.{p}
use Rattle.rv_word.specs.declared.instr.Kind.{Kind}
use Rattle.rv_model.specs.Align.{width}
use Rattle.pil_ast.specs.Term.{Namespace, item_at, space_at}
use Rattle.pil_ast.specs.Columns.{Columns}
use Rattle.pil_ast.specs.Value.{around}
use Rattle.pil_ast.specs.Holds.{tuple, times, sent, Holds, HoldsAt, AllHold}
use Rattle.pil_exact.specs.Exact.{HoldsExactly}
use Rattle.pil_exact.specs.Tables.{SmallTables}
use Rattle.machine_text.specs.Align.{here, space, items, access}
use Rattle.step_rows.specs.AlignRow.{align_row}
use Rattle.step_rows.specs.Tuples.{access_tuple, IsAccess}

-- Align stands in the text, the small tables have their constants, and the values are those of a field
pub record HasAlign (ns : List Namespace) (c : Columns) : Type 0 where
  pub stands : space_at ns here ≡ space
  pub tables : SmallTables c
  pub in_field : (s i k r : ℕ) → c.at s i k r < p

-- row r of instance i meets each line of Align
abbrev pub Meets : List Namespace → Columns → ℕ → ℕ → Type 0
Meets ns c i r = (j : ℕ) → HoldsAt ns c i r (item_at items j)

-- Soundness: a selected row has the tuple of a load or a store.
abbrev pub AlignSound : Type 0
AlignSound = (ns : List Namespace) (c : Columns) (i r : ℕ) → HasAlign ns c → Meets ns c i r → c.at here i 0 r ≢ 0 → IsAccess (tuple ns c here i r access.terms)

-- No wrap: each identity holds in whole numbers, at each row.
abbrev pub AlignExact : Type 0
AlignExact = (ns : List Namespace) (c : Columns) (i r : ℕ) → HasAlign ns c → Meets ns c i r → (j : ℕ) → HoldsExactly items (around ns c here i r) (item_at items j)

-- row r of instance i is that of an access
abbrev pub IsRowOf : Columns → ℕ → ℕ → Kind → ℕ → ℕ → ℕ → Type 0
IsRowOf c i r k off old value = (j : ℕ) → j < 38 → c.at here i j r ≡ slice_index (align_row k off old value) j

-- Completeness: the row of an access within a doubleword, at a multiple of its width, meets the lines and has its tuple.
abbrev pub AlignComplete : Type 0
AlignComplete =
    (ns : List Namespace) (c : Columns) (i r : ℕ) (k : Kind) (off old value : ℕ) → HasAlign ns c → off < 8 → off % width k ≡ 0 → old < 2 ^ 64 → value < 2 ^ 64 → IsRowOf c i r k off old value → Meets ns c i r × (tuple ns c here i r access.terms ≡ access_tuple k off old value)

-- So does a row that isn't selected, whatever its other values are.
abbrev pub AlignPadding : Type 0
AlignPadding = (ns : List Namespace) (c : Columns) (i r : ℕ) → HasAlign ns c → c.at here i 0 r ≡ 0 → Meets ns c i r

-- Where a text holds, each tuple that Align has for Main is that of an access.
abbrev pub AlignSent : Type 0
AlignSent = (ns : List Namespace) (c : Columns) (t : List ℕ) → HasAlign ns c → AllHold ns c → times t (sent ns c access) ≢ 0 → IsAccess t

-- a row of an access, or one that isn't selected
abbrev pub IsFilled : Columns → ℕ → ℕ → Type 0
IsFilled c i r =
    (c.at here i 0 r ≡ 0) ⊎ ((k : Kind) × (off : ℕ) × (old : ℕ) × (value : ℕ) × (off < 8) × (off % width k ≡ 0) × (old < 2 ^ 64) × (value < 2 ^ 64) × IsRowOf c i r k off old value)

-- Where all rows are so filled, each line of Align holds.
abbrev pub AlignFilled : Type 0
AlignFilled =
    (ns : List Namespace) (c : Columns) → HasAlign ns c → ((i r : ℕ) → i < c.instances here → r < c.rows here → IsFilled c i r) → (j : ℕ) → Holds ns c (item_at items j)
