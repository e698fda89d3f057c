-- Signed numbers as a sign and a magnitude: their products, quotients and remainders.
use Rattle.std.proofs.Common.{ℕ, zero, suc, ◌+◌, ◌-◌, ◌*◌, ◌/◌, ◌%◌, ◌^◌, ◌<◌, ◌≤◌, ◌≡◌, ℤ, pos, neg_ℤ, nat_abs, ◌*ℤ◌, int_div, int_rem, refl, sym, ap, ◌∙◌, mul-zero, zero-mul, arith}
use Rattle.std.proofs.lemmas.Nat.{div-mul-add, mod-mul-add}
use Rattle.std.specs.Int.{Width, cast_signed, int_shr}
use mir.Val.{hbits, bits}
use Rattle.rv_model.specs.Op.{bits_of}
use Rattle.air_arith.proofs.Twos.{plus, minus}

-- m, or -m
abbrev pub by_sign : ℕ → ℕ → ℤ
by_sign zero m = pos m
by_sign (suc s) m = neg_ℤ (pos m)

-- the sign of a product: 1 where one of the signs is
abbrev pub sign_of : ℕ → ℕ → ℕ
sign_of zero t = t
sign_of (suc s) zero = 1
sign_of (suc s) (suc t) = 0

-- m is the magnitude of the number with the bits a, by its sign
pub data IsSize (w : Width) (a m : ℕ) : ℕ → Type 0 where
  not_negative : a < 2 ^ hbits w → m ≡ a → IsSize w a m 0
  negative : 2 ^ hbits w ≤ a → a < 2 ^ bits w → m + a ≡ 2 ^ bits w → IsSize w a m 1

pub signed_size : (w : Width) (a m s : ℕ) → IsSize w a m s → cast_signed w a ≡ by_sign s m
signed_size w a m s (not_negative l e) = plus w a l ∙ ap pos (sym e)
signed_size w a zero s (negative l k e) = absurd (none a (2 ^ bits w) k e)
  where
    none : (a n : ℕ) → a < n → 0 + a ≡ n → ⊥
    none a n k e = omega arith
signed_size w a (suc m) s (negative l k e) = minus w a m l (turn a m (2 ^ bits w) e)
  where
    turn : (a m n : ℕ) → suc m + a ≡ n → a + suc m ≡ n
    turn a m n e = omega arith

nothing_over : (d : ℕ) → 0 / d ≡ 0
nothing_over zero = refl
nothing_over (suc d) = omega (arith, div-mul-add 0 (suc d) 0 (omega arith))

nothing_left : (d : ℕ) → 0 % d ≡ 0
nothing_left zero = refl
nothing_left (suc d) = omega (arith, mod-mul-add 0 (suc d) 0 (omega arith))

pub quotient_sign : (s t m d : ℕ) → 0 < d → int_div (by_sign s m) (by_sign t d) ≡ by_sign (sign_of s t) (m / d)
quotient_sign s t m zero h = absurd (omega arith)
quotient_sign zero zero m (suc d) h = refl
quotient_sign zero (suc t) m (suc d) h = refl
quotient_sign (suc s) zero zero (suc d) h = ap pos (nothing_over (suc d)) ∙ sym (ap (λ z. neg_ℤ (pos z)) (nothing_over (suc d)))
quotient_sign (suc s) zero (suc m) (suc d) h = refl
quotient_sign (suc s) (suc t) zero (suc d) h = ap (λ z. neg_ℤ (pos z)) (nothing_over (suc d)) ∙ sym (ap pos (nothing_over (suc d)))
quotient_sign (suc s) (suc t) (suc m) (suc d) h = refl

size_of : (t d : ℕ) → nat_abs (by_sign t d) ≡ d
size_of zero d = refl
size_of (suc t) zero = refl
size_of (suc t) (suc d) = refl

pub rest_sign : (s t m d : ℕ) → int_rem (by_sign s m) (by_sign t d) ≡ by_sign s (m % d)
rest_sign zero t m d = ap (λ z. pos (m % z)) (size_of t d)
rest_sign (suc s) t zero d = ap pos (nothing_left (nat_abs (by_sign t d))) ∙ sym (ap (λ z. neg_ℤ (pos z)) (nothing_left d))
rest_sign (suc s) t (suc m) d = ap (λ z. neg_ℤ (pos (suc m % z))) (size_of t d)

pub product_sign : (s t m d : ℕ) → by_sign s m *ℤ by_sign t d ≡ by_sign (sign_of s t) (m * d)
product_sign zero zero m d = refl
product_sign zero (suc t) m zero = ap pos (mul-zero m) ∙ sym (ap (λ z. neg_ℤ (pos z)) (mul-zero m))
product_sign zero (suc t) m (suc d) = refl
product_sign (suc s) zero zero d = ap pos (zero-mul d) ∙ sym (ap (λ z. neg_ℤ (pos z)) (zero-mul d))
product_sign (suc s) zero (suc m) d = refl
product_sign (suc s) (suc t) zero zero = refl
product_sign (suc s) (suc t) zero (suc d) = ap (λ z. neg_ℤ (pos z)) (zero-mul (suc d)) ∙ sym (ap pos (zero-mul (suc d)))
product_sign (suc s) (suc t) (suc m) zero = ap (λ z. neg_ℤ (pos z)) (mul-zero (suc m)) ∙ sym (ap pos (mul-zero (suc m)))
product_sign (suc s) (suc t) (suc m) (suc d) = refl

-- z has the 64 bits of v, or of -v
pub data IsBits (v z : ℕ) : ℕ → Type 0 where
  same : z ≡ v → IsBits v z 0
  turned : (k : ℕ) → v + z ≡ 18446744073709551616 * k → v ≤ 18446744073709551616 → z < 18446744073709551616 → IsBits v z 1

pub bits_sign : (v z s : ℕ) → IsBits v z s → bits_of (by_sign s v) ≡ z
bits_sign v z s (same e) = sym e
bits_sign zero z s (turned k e b l) = none z k e l
  where
    none : (z k : ℕ) → 0 + z ≡ 18446744073709551616 * k → z < 18446744073709551616 → 0 ≡ z
    none z k e l = omega arith
bits_sign (suc v) z s (turned k e b l) = some v z k e b l
  where
    some : (v z k : ℕ) → suc v + z ≡ 18446744073709551616 * k → suc v ≤ 18446744073709551616 → z < 18446744073709551616 → 18446744073709551616 - suc v ≡ z
    some v z k e b l = omega arith

-- The high 64 bits of a number of 128 bits, and of what is turned: one less where the low half isn't 0.
pub data IsHigh (low high z : ℕ) : ℕ → Type 0 where
  plain : z ≡ high → IsHigh low high z 0
  whole : (k : ℕ) → low ≡ 0 → high + z ≡ 18446744073709551616 * k → z < 18446744073709551616 → IsHigh low high z 1
  parted : (k : ℕ) → 0 < low → high + z + 1 ≡ 18446744073709551616 * k → z < 18446744073709551616 → IsHigh low high z 1

pub high_sign : (n low high z s : ℕ) → n ≡ low + 18446744073709551616 * high → low < 18446744073709551616 → high < 18446744073709551616 → IsHigh low high z s → bits_of (int_shr (by_sign s n) 64) ≡ z
high_sign n low high z s e l h (plain q) = by n e
  where
    by : (n : ℕ) → n ≡ low + 18446744073709551616 * high → n / 18446744073709551616 ≡ z
    by n e = omega arith
high_sign zero low high z s e l h (whole k o q b) = none low high z k e q b
  where
    none : (low high z k : ℕ) → 0 ≡ low + 18446744073709551616 * high → high + z ≡ 18446744073709551616 * k → z < 18446744073709551616 → 0 / 18446744073709551616 ≡ z
    none low high z k e q b = omega arith
high_sign (suc n) low high z s e l h (whole k o q b) = some n low high z k e o q b h
  where
    some : (n low high z k : ℕ) → suc n ≡ low + 18446744073709551616 * high → low ≡ 0 → high + z ≡ 18446744073709551616 * k → z < 18446744073709551616 → high < 18446744073709551616 → 18446744073709551616 - suc (n / 18446744073709551616) ≡ z
    some n low high z k e o q b h = omega arith
high_sign zero low high z s e l h (parted k o q b) = absurd (none low high e o)
  where
    none : (low high : ℕ) → 0 ≡ low + 18446744073709551616 * high → 0 < low → ⊥
    none low high e o = omega arith
high_sign (suc n) low high z s e l h (parted k o q b) = some n low high z k e o q b h l
  where
    some : (n low high z k : ℕ) → suc n ≡ low + 18446744073709551616 * high → 0 < low → high + z + 1 ≡ 18446744073709551616 * k → z < 18446744073709551616 → high < 18446744073709551616 → low < 18446744073709551616 → 18446744073709551616 - suc (n / 18446744073709551616) ≡ z
    some n low high z k e o q b h l = omega arith

-- a quotient and a remainder, and that there is one of each
pub record Divides (n d q r : ℕ) : Type 0 where
  pub is : q * d + r ≡ n
  pub less : r < d

pub quotient_is : (n d q r : ℕ) → Divides n d q r → n / d ≡ q
quotient_is n d q r h = ap (λ z. z / d) (sym h.is) ∙ div-mul-add q d r h.less

pub rest_is : (n d q r : ℕ) → Divides n d q r → n % d ≡ r
rest_is n d q r h = ap (λ z. z % d) (sym h.is) ∙ mod-mul-add q d r h.less
