-- Numbers with a sign.
use Rattle.std.proofs.Common.{◌≡◌, ◌<◌, ◌≤◌, ◌+◌, ◌-◌, ◌*◌, ◌/◌, ◌%◌, ◌^◌, lit<, ℕ, zero, suc, true, false, nat_lt, cond, ap, sym, refl, arith, ◌∙◌}
use Rattle.std.proofs.Math.Nat.{pow-le-pow_right, div-eq_of_lt}
use Rattle.step_rows.specs.Words.{digit}
use Rattle.step_rows.specs.ArithRow.{sign_bit, used, size, turned, carry_of, k1_of, k2_of, differ}

used_set : (n s a : ℕ) → 0 < s → s ≤ sign_bit n a → 0 < used n s a
used_set n s a h k =
    elim (nat_lt n 8) as (λ t. s ≤ cond t (a / 2 ^ 63) (a / 2 ^ 31 % 2) → 0 < cond t a (a % 2 ^ 32 + 2 ^ 32 * (s * (2 ^ 32 - 1)))) [
      | true ↦ λ g. omega arith
      | false ↦ λ g. omega arith
    ] k

less : (v : ℕ) → 0 < v → (0 + (2 ^ 64 - v)) % 2 ^ 64 ≡ 2 ^ 64 - v
less v h = omega arith

pub size_none : (s v : ℕ) → s ≡ 0 → v ≡ size s v
size_none zero v e = refl
size_none (suc s) v e = omega arith

some_size : (s v : ℕ) → 0 < s → 2 ^ 64 - v ≡ size s v
some_size zero v h = omega arith
some_size (suc s) v h = refl

pub size_some : (n s v : ℕ) → 0 < s → s ≤ sign_bit n v → (0 + (2 ^ 64 - used n s v)) % 2 ^ 64 ≡ size s (used n s v)
size_some n s v h k = less (used n s v) (used_set n s v h k) ∙ some_size s (used n s v) h

pub turned_none : (s v kn : ℕ) → s ≡ 0 → v ≡ turned s v kn
turned_none zero v kn e = refl
turned_none (suc s) v kn e = omega arith

pub turned_some : (s v kn : ℕ) → 0 < s → (2 ^ 65 - v - kn) % 2 ^ 64 ≡ turned s v kn
turned_some zero v kn h = omega arith
turned_some (suc s) v kn h = refl

pub carry_none : (s m v : ℕ) → s ≡ 0 → 0 ≡ carry_of s m v
carry_none zero m v e = refl
carry_none (suc s) m v e = omega arith

pub carry_some : (s m v : ℕ) → 0 < s → (m % 2 ^ 32 + v % 2 ^ 32) / 2 ^ 32 ≡ carry_of s m v
carry_some zero m v h = omega arith
carry_some (suc s) m v h = refl

pub low_none : (s m z kn : ℕ) → s ≡ 0 → 0 ≡ k1_of s m z kn
low_none zero m z kn e = refl
low_none (suc s) m z kn e = omega arith

pub low_some : (s m z kn : ℕ) → 0 < s → (m % 2 ^ 32 + z % 2 ^ 32 + kn) / 2 ^ 32 ≡ k1_of s m z kn
low_some zero m z kn h = omega arith
low_some (suc s) m z kn h = refl

pub high_none : (s m z kn : ℕ) → s ≡ 0 → 0 ≡ k2_of s m z kn
high_none zero m z kn e = refl
high_none (suc s) m z kn e = omega arith

pub high_some : (s m z kn : ℕ) → 0 < s → (m / 2 ^ 32 + z / 2 ^ 32 + k1_of s m z kn) / 2 ^ 32 ≡ k2_of s m z kn
high_some zero m z kn h = omega arith
high_some (suc s) m z kn h = refl

pub differ_none : (s t : ℕ) → s ≡ 0 → t ≡ differ s t
differ_none zero t e = refl
differ_none (suc s) t e = omega arith

pub differ_first : (s t : ℕ) → 0 < s → t ≡ 0 → 1 ≡ differ s t
differ_first zero t h e = omega arith
differ_first (suc s) zero h e = refl
differ_first (suc s) (suc t) h e = omega arith

pub differ_both : (s t : ℕ) → 0 < s → 0 < t → 0 ≡ differ s t
differ_both zero t h k = omega arith
differ_both (suc s) zero h k = omega arith
differ_both (suc s) (suc t) h k = refl

pub ruleset signs = (size_none, size_some, turned_none, turned_some, carry_none, carry_some, low_none, low_some, high_none, high_some, differ_none, differ_first, differ_both)

past_all : (w low : ℕ) → w < 2 ^ 128 → 128 ≤ low → w / 2 ^ low ≡ 0
past_all w low h le =
    let long : 2 ^ 128 ≤ 2 ^ low = pow-le-pow_right (lit< tt) le in
    div-eq_of_lt (omega arith)

pub past : (w i : ℕ) → w < 2 ^ 128 → 8 ≤ i → 0 ≡ digit w i
past w i h le = ap (λ n. n % 2 ^ 16) (sym (past_all w (16 * i) h (omega arith)))
