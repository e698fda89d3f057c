-- A number by its limbs.
use Rattle.std.proofs.Common.{ℕ, ◌+◌, ◌*◌, ◌/◌, ◌%◌, ◌^◌, ◌<◌, ◌≡◌, arith}

-- lo and hi are the limbs of v
pub record Limbs (lo hi v : ℕ) : Type 0 where
  pub low : lo < 2 ^ 32
  pub high : hi < 2 ^ 32
  pub value : v ≡ lo + 4294967296 * hi

pub low_of : (lo hi v : ℕ) → Limbs lo hi v → lo ≡ v % 4294967296
low_of lo hi v h = omega (arith, h.low, h.value)

pub high_of : (lo hi v : ℕ) → Limbs lo hi v → hi ≡ v / 4294967296
high_of lo hi v h = omega (arith, h.low, h.value)

pub fits_of : (lo hi v : ℕ) → Limbs lo hi v → v < 18446744073709551616
fits_of lo hi v h = omega (arith, h.low, h.high, h.value)
