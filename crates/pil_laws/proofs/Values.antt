-- The value of an expression whose columns are known, and of a public.
use Rattle.std.proofs.Common.{ℕ, zero, suc, ◌<◌, ◌≡◌, Bool, true, false, cond, List, Option, Some, None, length, slice_get, refl, ap, ◌∙◌, lit<}
use Rattle.std.specs.Prelude.{nat_lt}
use Rattle.gold.specs.Field.{p, add_mod, sub_mod, mul_mod, neg_mod}
use Rattle.pil_ast.specs.declared.tree.Place.{Place}
use Rattle.pil_ast.specs.Term.{Term, num, col, mid, public, opp, ◌⊕◌, ◌⊖◌, ◌⊗◌, Line, Namespace, inter_at, publics}
use Rattle.pil_ast.specs.Columns.{Columns}
use Rattle.pil_ast.specs.Value.{value, value_at, value_by, later, public_value, value_of_place}

-- columns that agree give an expression one value
pub same_by : (v w m u : ℕ → ℕ → Bool → ℕ) (g : ℕ → ℕ) → ((s k : ℕ) (b : Bool) → v s k b ≡ w s k b) → ((s k : ℕ) (b : Bool) → m s k b ≡ u s k b) → (e : Term) → value_by v m g e ≡ value_by w u g e
same_by v w m u g h j (num n) = refl
same_by v w m u g h j (col s k b) = h s k b
same_by v w m u g h j (mid s k b) = j s k b
same_by v w m u g h j (public k) = refl
same_by v w m u g h j (opp a) = ap neg_mod (same_by v w m u g h j a)
same_by v w m u g h j (a ⊕ b) = ap (λ z. add_mod z (value_by v m g b)) (same_by v w m u g h j a) ∙ ap (add_mod (value_by w u g a)) (same_by v w m u g h j b)
same_by v w m u g h j (a ⊖ b) = ap (λ z. sub_mod z (value_by v m g b)) (same_by v w m u g h j a) ∙ ap (sub_mod (value_by w u g a)) (same_by v w m u g h j b)
same_by v w m u g h j (a ⊗ b) = ap (λ z. mul_mod z (value_by v m g b)) (same_by v w m u g h j a) ∙ ap (mul_mod (value_by w u g a)) (same_by v w m u g h j b)

module _ (items : List Line) (x y : ℕ → ℕ → ℕ → ℕ) (g : ℕ → ℕ) (same : (t n k : ℕ) → x t n k ≡ y t n k) where
  same_at : (f t : ℕ) (e : Term) → value_at items (record { column = x; public = g }) f t e ≡ value_at items (record { column = y; public = g }) f t e
  same_at zero t e = same_by (λ s k b. x (later t b) s k) (λ s k b. y (later t b) s k) (λ s k b. 0) (λ s k b. 0) g (λ s k b. same (later t b) s k) (λ s k b. refl) e
  same_at (suc f) t e =
      same_by (λ s k b. x (later t b) s k) (λ s k b. y (later t b) s k) (λ s k b. value_at items (record { column = x; public = g }) f (later t b) (inter_at items k)) (λ s k b. value_at items (record { column = y; public = g }) f (later t b) (inter_at items k)) g
      (λ s k b. same (later t b) s k) (λ s k b. same_at f (later t b) (inter_at items k)) e

  pub same_value : (e : Term) → value items (record { column = x; public = g }) e ≡ value items (record { column = y; public = g }) e
  same_value e = same_at (suc (length items)) 0 e

place_small : (c : Columns) → ((s i k r : ℕ) → c.at s i k r < p) → (o : Option Place) → value_of_place c o < p
place_small c h None = lit< tt
place_small c h (Some a) = either (nat_lt 0 (c.instances a.space)) _ (h a.space 0 a.column a.row)
  where
    either : (b : Bool) (v : ℕ) → v < p → cond b v 0 < p
    either true v h = h
    either false v h = lit< tt

-- a public's value is one of the field where the columns' values are
pub public_small : (ns : List Namespace) (c : Columns) (k : ℕ) → ((s i j r : ℕ) → c.at s i j r < p) → public_value ns c k < p
unfolding public_value
public_small ns c k h = place_small c h (slice_get (publics ns) k)
