-- An expression's value is its whole number modulo p.
use Rattle.std.proofs.Common.{ℕ, zero, suc, ◌+◌, ◌-◌, ◌*◌, ◌%◌, ◌/◌, ◌<◌, ◌≡◌, Bool, List, length, ap, lit<, arith}
use Rattle.std.proofs.Math.Nat.{div-add-mod, mod-lt}
use Rattle.gold.specs.Field.{p, add_mod, sub_mod, mul_mod, neg_mod}
use Rattle.pil_ast.specs.Term.{Term, num, col, mid, public, opp, ◌⊕◌, ◌⊖◌, ◌⊗◌, Line, inter_at}
use Rattle.pil_ast.specs.Value.{Cells, value, value_by, value_at, later}
use Rattle.pil_exact.specs.Exact.{Same, IsMod, Whole, whole, added, multiplied, opposite, exact_by, exact_at, exact}

pub below_p : (x : ℕ) → x % p < p
below_p x = mod-lt x {m = p} (lit< tt)

reduced : (a : ℕ) → Same (a % p) a
reduced a = record { j = a / p; k = 0; is = omega (arith, div-add-mod a p) }

pub itself : (n : ℕ) → IsMod n (whole n)
itself n = record { j = 0; k = 0; is = omega arith }

mod_add : (a b : ℕ) (x y : Whole) → IsMod a x → IsMod b y → IsMod (add_mod a b) (added x y)
mod_add a b x y s t =
    let m = reduced (a + b) in
    record { j = m.j + s.j + t.j; k = m.k + s.k + t.k; is = omega (arith, m.is, s.is, t.is) }

mod_opp : (a : ℕ) (x : Whole) → IsMod a x → IsMod (neg_mod a) (opposite x)
mod_opp a x t =
    let m = reduced (p - a % p) in
    let n = reduced a in
    let below = below_p a in
    record { j = m.j + t.k + n.k; k = m.k + t.j + 1 + n.j; is = omega (arith, m.is, t.is, n.is, below) }

mod_sub : (a b : ℕ) (x y : Whole) → IsMod a x → IsMod b y → IsMod (sub_mod a b) (added x (opposite y))
mod_sub a b x y s t =
    let m = reduced (a + (p - b % p)) in
    let n = reduced b in
    let below = below_p b in
    record { j = m.j + s.j + t.k + n.k; k = m.k + s.k + t.j + 1 + n.j; is = omega (arith, m.is, s.is, t.is, n.is, below) }

times_right : {a b : ℕ} (c : ℕ) → Same a b → Same (a * c) (b * c)
times_right c s = record { j = s.j * c; k = s.k * c; is = omega (arith, ap (λ z. z * c) s.is) }

mod_mul : (a b : ℕ) (x y : Whole) → IsMod a x → IsMod b y → IsMod (mul_mod a b) (multiplied x y)
mod_mul a b x y s t =
    let m = reduced (a * b) in
    let u = times_right y.up s in
    let d = times_right y.down s in
    let c = times_right a t in
    record { j = m.j + u.j + d.k + c.j; k = m.k + u.k + d.j + c.k; is = omega (arith, m.is, u.is, d.is, c.is) }

module _ (v m : ℕ → ℕ → Bool → ℕ) (g : ℕ → ℕ) (x : ℕ → ℕ → Bool → Whole) (h : (s k : ℕ) (b : Bool) → IsMod (m s k b) (x s k b)) where
  mod_by : (e : Term) → IsMod (value_by v m g e) (exact_by v x g e)
  mod_by (num n) = itself n
  mod_by (col s k b) = itself (v s k b)
  mod_by (mid s k b) = h s k b
  mod_by (public k) = itself (g k)
  mod_by (opp a) = mod_opp _ _ (mod_by a)
  mod_by (a ⊕ b) = mod_add _ _ _ _ (mod_by a) (mod_by b)
  mod_by (a ⊖ b) = mod_sub _ _ _ _ (mod_by a) (mod_by b)
  mod_by (a ⊗ b) = mod_mul _ _ _ _ (mod_by a) (mod_by b)

mod_at : (items : List Line) (x : Cells) (f t : ℕ) (e : Term) → IsMod (value_at items x f t e) (exact_at items x f t e)
mod_at items x zero t e = mod_by _ _ _ _ (λ s k b. itself 0) e
mod_at items x (suc f) t e = mod_by _ _ _ _ (λ s k b. mod_at items x f (later t b) (inter_at items k)) e

pub is_mod : (items : List Line) (x : Cells) (e : Term) → IsMod (value items x e) (exact items x e)
is_mod items x e = mod_at items x (suc (length items)) 0 e

-- a multiple of p strictly between -p and p is 0
pub no_wrap : {a b : ℕ} → Same a b → a < p → b < p → a ≡ b
no_wrap s ha hb = omega (arith, s.is)
