-- What a namespace sends, where its columns hold a table's rows.
use Rattle.std.specs.Prelude.{ℕ, zero, suc, ◌+◌, ◌-◌, ◌*◌, ◌<◌, ◌≤◌, ◌≡◌, ◌==◌, ◌&&◌, nat_le, nat_lt, Bool, cond, List, [], ◌∷◌, Option, Some, None, map, length, slice_get}
use Rattle.pil_ast.specs.Term.{Tuples, Line, Namespace, space_at}
use Rattle.pil_ast.specs.Columns.{Columns}
use Rattle.pil_ast.specs.Value.{Cells, value, ahead, public_value}
use Rattle.pil_ast.specs.Holds.{chosen}

-- the value of a column of a row, 0 where there is no row
abbrev pub held : {R : Type 0} → (R → ℕ → ℕ) → Option R → ℕ → ℕ
held value_of None k = 0
held value_of (Some x) k = value_of x k

-- `width` columns of the namespace s, from `first` on, hold these rows: row number i * N + r at row r
-- of instance i, where an instance has N rows, and zeros behind the last
pub record AreHeld {R : Type 0} (c : Columns) (s first width : ℕ) (value_of : R → ℕ → ℕ) (rows : List R) : Type 0 where
  pub room : length rows ≤ c.instances s * c.rows s
  pub each : (i r k : ℕ) → i < c.instances s → r < c.rows s → k < width → c.at s i (first + k) r ≡ held value_of (slice_get rows (i * c.rows s + r)) k

-- whether the column k of the namespace n is one of these
abbrev pub is_held : ℕ → ℕ → ℕ → ℕ → ℕ → Bool
is_held s first width n k = (n == s) && (nat_le first k && nat_lt k (first + width))

-- a row o, and the rows after it
abbrev pub row_ahead : {R : Type 0} → Option R → (ℕ → Option R) → ℕ → Option R
row_ahead o later zero = o
row_ahead o later (suc t) = later t

-- what an expression reads at a row o, where other columns are `others`
abbrev pub cells : {R : Type 0} → ℕ → ℕ → ℕ → (R → ℕ → ℕ) → (ℕ → ℕ → ℕ → ℕ) → (ℕ → ℕ) → Option R → (ℕ → Option R) → Cells
cells s first width value_of others publics o later = record {
  column = λ t n k. cond (is_held s first width n k) (held value_of (row_ahead o later t) (k - first)) (others t n k);
  public = publics;
}

-- what is sent by a row that reads these cells
abbrev pub sent_by : List Line → Cells → Tuples → List (List ℕ)
sent_by items x a = cond (chosen items x a.sel) (map (value items x) a.terms ∷ []) []

-- what f gives of a row, nothing where there is none
abbrev pub of_row : {R X : Type 0} → (R → List X) → Option R → List X
of_row f None = []
of_row f (Some x) = f x

-- what a row sends in the list `a` is what f gives of it, whatever the rows after it are, and nothing
-- where there is no row
abbrev pub Gives : {R : Type 0} → List Namespace → Columns → ℕ → ℕ → (R → ℕ → ℕ) → (R → List (List ℕ)) → List R → Tuples → Type 0
Gives {R} ns c first width value_of f rows a =
    (i r : ℕ) (o : Option R) (later : ℕ → Option R) → i < c.instances a.space → r < c.rows a.space → slice_get rows (i * c.rows a.space + r) ≡ o
    → sent_by (space_at ns a.space).items (cells a.space first width value_of (λ t n k. c.at n i k (ahead (c.rows a.space) r t)) (public_value ns c) o later) a ≡ of_row f o
