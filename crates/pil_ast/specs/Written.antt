-- An expression with its intermediates written out, and the value that it then has: no fuel is spent.
use Rattle.std.specs.Prelude.{ℕ, zero, suc, ◌≡◌, Bool, true, false, ◌||◌, List, length}
use Rattle.pil_ast.specs.Term.{Term, num, col, mid, public, opp, ◌⊕◌, ◌⊖◌, ◌⊗◌, Line, inter_at}
use Rattle.pil_ast.specs.Value.{Cells, later, value_by}

-- whether a mark stands in a term, where m says it of the intermediates
abbrev pub marked_by : (ℕ → Bool) → Term → Bool
marked_by m (num n) = false
marked_by m (col s k b) = b
marked_by m (mid s k b) = b || m k
marked_by m (public k) = false
marked_by m (opp a) = marked_by m a
marked_by m (a ⊕ b) = marked_by m a || marked_by m b
marked_by m (a ⊖ b) = marked_by m a || marked_by m b
marked_by m (a ⊗ b) = marked_by m a || marked_by m b

-- whether a mark stands in a term that names no intermediate
abbrev pub has_mark : Term → Bool
has_mark w = marked_by (λ k. false) w

-- a term that names no intermediate, one row further on
abbrev pub moved : Term → Term
moved (num n) = num n
moved (col s k b) = col s k true
moved (mid s k b) = mid s k true
moved (public k) = public k
moved (opp a) = opp (moved a)
moved (a ⊕ b) = moved a ⊕ moved b
moved (a ⊖ b) = moved a ⊖ moved b
moved (a ⊗ b) = moved a ⊗ moved b

-- w is the term with its intermediates written out, which are those of `items`
pub data IsWrittenOut (items : List Line) : Term → Term → Type 0 where
  number : (n : ℕ) → IsWrittenOut items (num n) (num n)
  column : (s k : ℕ) (b : Bool) → IsWrittenOut items (col s k b) (col s k b)
  public_one : (k : ℕ) → IsWrittenOut items (public k) (public k)
  here : (s k : ℕ) (w : Term) → IsWrittenOut items (inter_at items k) w → IsWrittenOut items (mid s k false) w
  next : (s k : ℕ) (w : Term) → IsWrittenOut items (inter_at items k) w → has_mark w ≡ false → IsWrittenOut items (mid s k true) (moved w)
  negated : (a v : Term) → IsWrittenOut items a v → IsWrittenOut items (opp a) (opp v)
  sum : (a b v w : Term) → IsWrittenOut items a v → IsWrittenOut items b w → IsWrittenOut items (a ⊕ b) (v ⊕ w)
  difference : (a b v w : Term) → IsWrittenOut items a v → IsWrittenOut items b w → IsWrittenOut items (a ⊖ b) (v ⊖ w)
  product : (a b v w : Term) → IsWrittenOut items a v → IsWrittenOut items b w → IsWrittenOut items (a ⊗ b) (v ⊗ w)

-- the value of a term that names no intermediate
abbrev pub plain_value : Cells → Term → ℕ
plain_value x w = value_by (λ s k b. x.column (later 0 b) s k) (λ s k b. 0) x.public w

-- v is the value of the term with its intermediates written out
abbrev pub IsValue : List Line → Cells → Term → ℕ → Type 0
IsValue items x e v = (w : Term) × IsWrittenOut items e w × (v ≡ plain_value x w)

-- whether a mark stands in a term with its intermediates written out, where these nest at most f deep
abbrev pub marked_at : List Line → ℕ → Term → Bool
marked_at items zero e = marked_by (λ k. false) e
marked_at items (suc f) e = marked_by (λ k. marked_at items f (inter_at items k)) e

-- whether a mark stands in the term with its intermediates written out
abbrev pub marked : List Line → Term → Bool
marked items e = marked_at items (suc (length items)) e
