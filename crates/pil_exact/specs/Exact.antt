-- The value of an expression with whole numbers in place of the field.
use Rattle.std.specs.Prelude.{ℕ, zero, suc, ◌+◌, ◌*◌, ◌≡◌, Bool, List, length}
use Rattle.gold.specs.Field.{p}
use Rattle.pil_ast.specs.Term.{Term, num, col, mid, public, opp, ◌⊕◌, ◌⊖◌, ◌⊗◌, Line, identity, inter_at}
use Rattle.pil_ast.specs.Value.{Cells, later}

-- a whole number, as what is added and what is taken away
pub record Whole : Type 0 where
  pub up : ℕ
  pub down : ℕ

abbrev pub whole : ℕ → Whole
whole n = record { up = n; down = 0 }

abbrev pub opposite : Whole → Whole
opposite x = record { up = x.down; down = x.up }

abbrev pub added : Whole → Whole → Whole
added x y = record { up = x.up + y.up; down = x.down + y.down }

abbrev pub multiplied : Whole → Whole → Whole
multiplied x y = record { up = x.up * y.up + x.down * y.down; down = x.up * y.down + x.down * y.up }

-- two whole numbers are one
abbrev pub AreOne : Whole → Whole → Type 0
AreOne x y = x.up + y.down ≡ x.down + y.up

-- the whole number of an expression, where v gives the columns', m the intermediates' and g the publics'
abbrev pub exact_by : (ℕ → ℕ → Bool → ℕ) → (ℕ → ℕ → Bool → Whole) → (ℕ → ℕ) → Term → Whole
exact_by v m g (num n) = whole n
exact_by v m g (col s k b) = whole (v s k b)
exact_by v m g (mid s k b) = m s k b
exact_by v m g (public k) = whole (g k)
exact_by v m g (opp a) = opposite (exact_by v m g a)
exact_by v m g (a ⊕ b) = added (exact_by v m g a) (exact_by v m g b)
exact_by v m g (a ⊖ b) = added (exact_by v m g a) (opposite (exact_by v m g b))
exact_by v m g (a ⊗ b) = multiplied (exact_by v m g a) (exact_by v m g b)

-- the same t rows further on, where the intermediates are those of `items` and nest at most f deep
abbrev pub exact_at : List Line → Cells → ℕ → ℕ → Term → Whole
exact_at items x zero t e = exact_by (λ s k b. x.column (later t b) s k) (λ s k b. whole 0) x.public e
exact_at items x (suc f) t e = exact_by (λ s k b. x.column (later t b) s k) (λ s k b. exact_at items x f (later t b) (inter_at items k)) x.public e

-- the whole number of an expression over a namespace that has these items
abbrev pub exact : List Line → Cells → Term → Whole
exact items x e = exact_at items x (suc (length items)) 0 e

-- the sides of an identity are one whole number
abbrev pub HoldsExactly : List Line → Cells → Line → Type 0
HoldsExactly items x (identity s a b) = AreOne (exact items x a) (exact items x b)
HoldsExactly items x _ = Unit {0}

-- equal modulo p
pub record Same (a b : ℕ) : Type 0 where
  pub j : ℕ
  pub k : ℕ
  pub is : a + j * p ≡ b + k * p

-- v is the whole number modulo p
abbrev pub IsMod : ℕ → Whole → Type 0
IsMod v x = Same (v + x.down) x.up
