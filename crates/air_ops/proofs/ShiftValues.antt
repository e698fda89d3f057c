-- The six shifts by digits of 16 bits.
use Rattle.std.proofs.Common.{ℕ, suc, ◌+◌, ◌-◌, ◌*◌, ◌/◌, ◌%◌, ◌<◌, ◌≤◌, ◌≡◌, ap, ◌∙◌, subst, arith}
use Rattle.rv_model.specs.Op.{word}
use Rattle.air_ops.proofs.Limbs.{Limbs}
use Rattle.air_ops.proofs.Digits.{Digits, Cut, whole, half, quotient, times_m, half_m, whole_n, half_n, complement}
use Rattle.air_ops.proofs.Twos.{word_plus}

kept : (x v e : ℕ) → x ≡ v + 18446744073709551616 * e → v < 18446744073709551616 → x % 18446744073709551616 ≡ v
kept x v e h l = omega arith

kept_low : (x v e : ℕ) → x ≡ v + 4294967296 * e → v < 4294967296 → x % 4294967296 ≡ v
kept_low x v e h l = omega arith

-- SRAW of what isn't negative, and of what is
pub plus_limbs : (q lo hi : ℕ) → q < 2147483648 → Limbs lo hi (word q) → Limbs lo hi q
plus_limbs q lo hi h l = subst (λ v. Limbs lo hi v) (word_plus q q (omega arith) h) l

pub minus_limbs : (q lo hi r0 r1 ws rr : ℕ) → q < 2147483648 → 4294967296 - suc q ≡ r0 + 65536 * r1 → lo ≡ r0 + 65536 * r1 → r0 ≤ 65535 → r1 ≡ 32768 * ws + rr → rr ≤ 32767 → ws ≤ 1 → hi ≡ ws * 4294967295 → Limbs lo hi (18446744073709551616 - suc q)
minus_limbs q lo hi r0 r1 ws rr h e l a s k m g = let one : ws ≡ 1 = omega arith in record { low = omega arith; high = omega arith; value = omega arith }

module _ (d : Digits) (n : ℕ) (c : Cut d n) (lo hi : ℕ) where
  -- SLL, by 0 to 3 whole digits
  pub left0 : lo ≡ d.l0 + 65536 * (d.l1 + d.h0) → hi ≡ (d.l2 + d.h1) + 65536 * (d.l3 + d.h2) → Limbs lo hi (whole d * d.m % 18446744073709551616)
  left0 e f = record { low = omega (arith, c.first, c.second); high = omega (arith, c.second, c.third, c.fourth); value = kept _ _ d.h3 (times_m d n c) (omega (arith, c.first, c.second, c.third, c.fourth)) ∙ omega arith }

  pub left1 : lo ≡ 65536 * d.l0 → hi ≡ (d.l1 + d.h0) + 65536 * (d.l2 + d.h1) → Limbs lo hi (whole d * (65536 * d.m) % 18446744073709551616)
  left1 e f = record { low = omega (arith, c.first); high = omega (arith, c.first, c.second, c.third); value = kept _ (lo + 4294967296 * hi) ((d.l3 + d.h2) + 65536 * d.h3) (omega (arith, times_m d n c)) (omega (arith, c.first, c.second, c.third)) }

  pub left2 : lo ≡ 0 → hi ≡ d.l0 + 65536 * (d.l1 + d.h0) → Limbs lo hi (whole d * (4294967296 * d.m) % 18446744073709551616)
  left2 e f = record { low = omega arith; high = omega (arith, c.first, c.second); value = kept _ (lo + 4294967296 * hi) ((d.l2 + d.h1) + 65536 * (d.l3 + d.h2) + 4294967296 * d.h3) (omega (arith, times_m d n c)) (omega (arith, c.first, c.second)) }

  pub left3 : lo ≡ 0 → hi ≡ 65536 * d.l0 → Limbs lo hi (whole d * (281474976710656 * d.m) % 18446744073709551616)
  left3 e f = record { low = omega arith; high = omega (arith, c.first); value = kept _ (lo + 4294967296 * hi) ((d.l1 + d.h0) + 65536 * (d.l2 + d.h1) + 4294967296 * (d.l3 + d.h2) + 281474976710656 * d.h3) (omega (arith, times_m d n c)) (omega (arith, c.first)) }

  -- SRL, and SRA of what isn't negative
  pub right0 : lo ≡ (d.h0 + d.l1) + 65536 * (d.h1 + d.l2) → hi ≡ (d.h2 + d.l3) + 65536 * d.h3 → Limbs lo hi (whole d / n)
  right0 e f = record { low = omega (arith, c.first, c.second, c.third); high = omega (arith, c.third, c.fourth, c.small); value = whole_n d n c ∙ omega arith }

  pub right1 : lo ≡ (d.h1 + d.l2) + 65536 * (d.h2 + d.l3) → hi ≡ d.h3 → Limbs lo hi (whole d / n / 65536)
  right1 e f = record { low = omega (arith, c.second, c.third, c.fourth); high = omega (arith, c.fourth, c.small); value = ap (λ z. z / 65536) (whole_n d n c) ∙ omega (arith, c.first, c.second) }

  pub right2 : lo ≡ (d.h2 + d.l3) + 65536 * d.h3 → hi ≡ 0 → Limbs lo hi (whole d / n / 4294967296)
  right2 e f = record { low = omega (arith, c.third, c.fourth, c.small); high = omega arith; value = ap (λ z. z / 4294967296) (whole_n d n c) ∙ omega (arith, c.first, c.second, c.third) }

  pub right3 : lo ≡ d.h3 → hi ≡ 0 → Limbs lo hi (whole d / n / 281474976710656)
  right3 e f = record { low = omega (arith, c.fourth, c.small); high = omega arith; value = ap (λ z. z / 281474976710656) (whole_n d n c) ∙ omega (arith, c.first, c.second, c.third, c.fourth) }

  -- SRA of what is negative: the complement b is shifted, and the complement comes out
  module _ (b : ℕ) (e : b + suc (whole d) ≡ 18446744073709551616) where
    turned : b / n + quotient d + 1 ≡ 281474976710656 * d.m
    turned = complement (whole d) b d.m n (quotient d) d.l0 281474976710656 (omega arith) (omega (arith, c.first.is, c.second.is, c.third.is, c.fourth.is)) c.turn c.first.low c.first.high (omega (arith, c.first, c.second, c.third, c.fourth))

    pub copied0 : lo ≡ (d.h0 + d.l1) + 65536 * (d.h1 + d.l2) → hi + 65536 * d.m ≡ (d.h2 + d.l3) + 65536 * (d.h3 + 65536) → Limbs lo hi (18446744073709551616 - suc (b / n))
    copied0 f g = record { low = omega (arith, c.first, c.second, c.third); high = omega (arith, c.third, c.fourth); value = omega (arith, turned) }

    pub copied1 : lo ≡ (d.h1 + d.l2) + 65536 * (d.h2 + d.l3) → hi + d.m ≡ (d.h3 + 65536) + 4294901760 → Limbs lo hi (18446744073709551616 - suc (b / n / 65536))
    copied1 f g = record { low = omega (arith, c.second, c.third, c.fourth); high = omega (arith, c.fourth); value = omega (arith, turned, c.first, c.second) }

    pub copied2 : lo + 65536 * d.m ≡ (d.h2 + d.l3) + 65536 * (d.h3 + 65536) → hi ≡ 4294967295 → Limbs lo hi (18446744073709551616 - suc (b / n / 4294967296))
    copied2 f g = record { low = omega (arith, c.third, c.fourth); high = omega arith; value = omega (arith, turned, c.first, c.second, c.third) }

    pub copied3 : lo + d.m ≡ (d.h3 + 65536) + 4294901760 → hi ≡ 4294967295 → Limbs lo hi (18446744073709551616 - suc (b / n / 281474976710656))
    copied3 f g = record { low = omega (arith, c.fourth); high = omega arith; value = omega (arith, turned, c.first, c.second, c.third, c.fourth) }

-- The shifts on 32 bits: the third and the fourth digit are the sign's, 0 or 65535. What comes out has the
-- digits r0 and r1.
module _ (d : Digits) (n : ℕ) (c : Cut d n) where
  pub low_left0 : (half d * d.m) % 4294967296 ≡ d.l0 + 65536 * (d.l1 + d.h0)
  low_left0 = kept_low _ _ d.h1 (half_m d n c) (omega (arith, c.first, c.second))

  pub low_left1 : (half d * (65536 * d.m)) % 4294967296 ≡ 0 + 65536 * d.l0
  low_left1 = kept_low _ (0 + 65536 * d.l0) ((d.l1 + d.h0) + 65536 * d.h1) (omega (arith, half_m d n c)) (omega (arith, c.first))

  -- where nothing comes in from above
  module _ (none : 0 ≡ 65536 * d.h2 + d.l2) (none' : 0 ≡ 65536 * d.h3 + d.l3) where
    pub low_right0 : half d / n ≡ (d.h0 + d.l1) + 65536 * (d.h1 + d.l2)
    low_right0 = half_n d n c ∙ omega (arith, none)

    pub low_right1 : half d / n / 65536 ≡ (d.h1 + d.l2) + 65536 * (d.h2 + d.l3)
    low_right1 = ap (λ z. z / 65536) (half_n d n c) ∙ omega (arith, none, none', c.first, c.second)

  -- where the sign 1 comes in
  module _ (sign : 65535 * d.m ≡ 65536 * d.h2 + d.l2) (sign' : 65535 * d.m ≡ 65536 * d.h3 + d.l3) (b : ℕ) (e : b + suc (half d) ≡ 4294967296) where
    low_turned : b / n + ((d.h0 + d.l1) + 65536 * d.h1) + 1 ≡ 65536 * d.m
    low_turned = complement (half d) b d.m n _ d.l0 65536 (omega arith) (omega (arith, c.first.is, c.second.is)) c.turn c.first.low c.first.high (omega (arith, c.first, c.second))

    pub low_copied0 : 4294967296 - suc (b / n) ≡ (d.h0 + d.l1) + 65536 * (d.h1 + d.l2)
    low_copied0 = omega (arith, low_turned, sign, c.third)

    pub low_copied1 : 4294967296 - suc (b / n / 65536) ≡ (d.h1 + d.l2) + 65536 * (d.h2 + d.l3)
    low_copied1 = omega (arith, low_turned, sign, sign', c.first, c.second, c.third, c.fourth)
