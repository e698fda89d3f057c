-- Numbers by their limbs, and in two's complement.
use Rattle.std.proofs.Common.{ℕ, suc, ◌+◌, ◌-◌, ◌*◌, ◌/◌, ◌%◌, ◌^◌, ◌<◌, ◌≤◌, ◌≡◌, false, ltb, pos, negsuc, ap, ◌∙◌, arith}
use Rattle.std.proofs.lemmas.Bool.Decides.{nat_tests}
use Rattle.std.proofs.lemmas.Int.{to_z_pos}
use Rattle.std.specs.Int.{Width, cast_signed}
use mir.Val.{hbits, bits, sel}

-- lo and hi are the limbs of v
pub record Limbs (lo hi v : ℕ) : Type 0 where
  pub low : lo < 4294967296
  pub high : hi < 4294967296
  pub value : v ≡ lo + 4294967296 * hi

pub low_of : (lo hi v : ℕ) → Limbs lo hi v → lo ≡ v % 4294967296
low_of lo hi v h = omega (arith, h.low, h.value)

pub high_of : (lo hi v : ℕ) → Limbs lo hi v → hi ≡ v / 4294967296
high_of lo hi v h = omega (arith, h.low, h.value)

pub fits : (lo hi v : ℕ) → Limbs lo hi v → v < 18446744073709551616
fits lo hi v h = omega (arith, h.low, h.high, h.value)

not_below : (a m : ℕ) → m ≤ a → ltb a m ≡ false
not_below a m h = grind (arith, nat_tests)

-- a number without its sign bit, and one with it
pub plus : (w : Width) (a : ℕ) → a < 2 ^ hbits w → cast_signed w a ≡ pos a
plus w a h = to_z_pos w a h

pub minus : (w : Width) (a b : ℕ) → 2 ^ hbits w ≤ a → a + suc b ≡ 2 ^ bits w → cast_signed w a ≡ negsuc b
minus w a b h e =
    ap (λ t. sel t (pos a) (negsuc (2 ^ bits w - suc a))) (not_below a (2 ^ hbits w) h) ∙ ap negsuc (rest (2 ^ bits w) a b e)
  where
    rest : (m a b : ℕ) → a + suc b ≡ m → m - suc a ≡ b
    rest m a b e = omega arith
