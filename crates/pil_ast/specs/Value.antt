-- The value of an expression at a row, modulo p (docs/PIL.md, "Values").
use Rattle.std.specs.Prelude.{ℕ, zero, suc, ◌+◌, ◌%◌, Bool, true, false, cond, nat_lt, List, Option, Some, None, slice_get, length}
use Rattle.gold.specs.Field.{add_mod, sub_mod, mul_mod, neg_mod}
use Rattle.pil_ast.specs.Term.{Term, num, col, mid, public, opp, ◌⊕◌, ◌⊖◌, ◌⊗◌, Line, Namespace, inter_at, space_at, publics}
use Rattle.pil_ast.specs.declared.tree.Place.{Place}
use Rattle.pil_ast.specs.Columns.{Columns}

-- what an expression reads: the column k of the namespace s, t rows further on, and the public k
pub record Cells : Type 0 where
  pub column : ℕ → ℕ → ℕ → ℕ
  pub public : ℕ → ℕ

-- the next of n rows, and the first after the last
unfoldable pub row_after : ℕ → ℕ → ℕ
row_after n r = (r + 1) % n

-- the row t rows further on
abbrev pub ahead : ℕ → ℕ → ℕ → ℕ
ahead n r zero = r
ahead n r (suc t) = row_after n (ahead n r t)

-- a mark means one row further on
abbrev pub later : ℕ → Bool → ℕ
later t false = t
later t true = suc t

-- the value, where v gives the columns', m the intermediates' and g the publics'
abbrev pub value_by : (ℕ → ℕ → Bool → ℕ) → (ℕ → ℕ → Bool → ℕ) → (ℕ → ℕ) → Term → ℕ
value_by v m g (num n) = n
value_by v m g (col s k b) = v s k b
value_by v m g (mid s k b) = m s k b
value_by v m g (public k) = g k
value_by v m g (opp a) = neg_mod (value_by v m g a)
value_by v m g (a ⊕ b) = add_mod (value_by v m g a) (value_by v m g b)
value_by v m g (a ⊖ b) = sub_mod (value_by v m g a) (value_by v m g b)
value_by v m g (a ⊗ b) = mul_mod (value_by v m g a) (value_by v m g b)

-- the value t rows further on, where the intermediates are those of `items` and nest at most f deep
abbrev pub value_at : List Line → Cells → ℕ → ℕ → Term → ℕ
value_at items x zero t e = value_by (λ s k b. x.column (later t b) s k) (λ s k b. 0) x.public e
value_at items x (suc f) t e = value_by (λ s k b. x.column (later t b) s k) (λ s k b. value_at items x f (later t b) (inter_at items k)) x.public e

-- the value of an expression over a namespace that has these items
abbrev pub value : List Line → Cells → Term → ℕ
value items x e = value_at items x (suc (length items)) 0 e

-- the value of a public's column at its row of instance 0, or 0 where there is no instance
abbrev pub value_of_place : Columns → Option Place → ℕ
value_of_place c None = 0
value_of_place c (Some a) = cond (nat_lt 0 (c.instances a.space)) (c.at a.space 0 a.column a.row) 0

-- the value of the public with number k
unfoldable pub public_value : List Namespace → Columns → ℕ → ℕ
public_value ns c k = value_of_place c (slice_get (publics ns) k)

-- what the expressions of the namespace s read at row r of instance i
abbrev pub around : List Namespace → Columns → ℕ → ℕ → ℕ → Cells
around ns c s i r = record { column = λ t n k. c.at n i k (ahead (c.rows s) r t); public = public_value ns c }

-- the value of an expression over the namespace s, at row r of instance i
abbrev pub value_in : List Namespace → Columns → ℕ → ℕ → ℕ → Term → ℕ
value_in ns c s i r e = value (space_at ns s).items (around ns c s i r) e
