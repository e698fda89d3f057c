-- What the operations of Arith share beyond their flags: operands, quotients and results by their columns.
use Rattle.std.proofs.Common.{ℕ, zero, suc, ◌+◌, ◌*◌, ◌<◌, ◌≤◌, ◌≡◌, ◌⊎◌, inl, inr, refl, lt_of_le_of_lt, zero-le, arith}
use Rattle.std.specs.Int.{w32, w64}
use Rattle.pil_ast.specs.Value.{Cells}
use Rattle.air_arith.proofs.Signed.{IsSize, IsBits, IsHigh, Divides, sign_of}
use Rattle.air_arith.proofs.Known.{Selected, ra_small, rb_small}
use Rattle.air_arith.proofs.Numbers.{joined, limb, wide, Sized, Outcome, HighOutcome, size_64, size_32, outcome, high_outcome, divides}
use Rattle.air_arith.proofs.Rows.{bound, product, four, some_of_four, small_limb}

pub two_cases : (v : ℕ) → v ≤ 1 → (v ≡ 0) ⊎ (v ≡ 1)
two_cases zero l = inl refl
two_cases (suc v) l = inr (omega arith)

sign_small : (s t : ℕ) → s ≤ 1 → t ≤ 1 → sign_of s t ≤ 1
sign_small zero t h k = k
sign_small (suc s) zero h k = omega arith
sign_small (suc s) (suc t) h k = omega arith

module _ (x : Cells) (s : Selected x) where
  abbrev f : ℕ → ℕ
  f = x.column 0 12

  -- the operands' signs
  pub signs : sign_of (f 56) (f 58) ≤ 1
  signs = sign_small _ _ (bound x s 56) (bound x s 58)

  -- the operands' magnitudes, where that of the first is in the columns from k on
  pub first_64 : (mlo mhi : ℕ) → Sized (f 56) mlo mhi (limb f 14) (limb f 16) (f 60) → f 17 ≡ 32768 * f 56 + f 57 → IsSize w64 (wide f 14) (joined mlo mhi) (f 56)
  first_64 mlo mhi h e = size_64 (f 56) mlo mhi (limb f 14) (f 16) (f 17) (f 60) (f 57) (bound x s 56) h e (ra_small x s) (bound x s 16) (small_limb _ _ (bound x s 14) (bound x s 15))

  pub second_64 : Sized (f 58) (limb f 26) (limb f 28) (limb f 18) (limb f 20) (f 61) → f 21 ≡ 32768 * f 58 + f 59 → IsSize w64 (wide f 18) (wide f 26) (f 58)
  second_64 h e = size_64 (f 58) (limb f 26) (limb f 28) (limb f 18) (f 20) (f 21) (f 61) (f 59) (bound x s 58) h e (rb_small x s) (bound x s 20) (small_limb _ _ (bound x s 18) (bound x s 19))

  pub first_32 : Sized (f 56) (limb f 34) (limb f 36) (limb f 14) (f 56 * 4294967295) (f 60) → f 15 ≡ 32768 * f 56 + f 57 → IsSize w32 (limb f 14) (wide f 34) (f 56)
  first_32 h e = size_32 (f 56) (limb f 34) (limb f 36) (f 14) (f 15) (f 60) (f 57) (bound x s 56) h e (ra_small x s) (bound x s 14)

  pub second_32 : Sized (f 58) (limb f 26) (limb f 28) (limb f 18) (f 58 * 4294967295) (f 61) → f 19 ≡ 32768 * f 58 + f 59 → IsSize w32 (limb f 18) (wide f 26) (f 58)
  second_32 h e = size_32 (f 58) (limb f 26) (limb f 28) (f 18) (f 19) (f 61) (f 59) (bound x s 58) h e (rb_small x s) (bound x s 18)

  -- the quotient and the remainder of the magnitudes
  pub quotient : f 38 + f 39 + f 40 + f 41 ≡ 0 → limb f 30 + f 66 + 65536 * f 67 + 1 ≡ limb f 26 + 4294967296 * f 70 → limb f 32 + f 68 + 65536 * f 69 + f 70 ≡ limb f 28 → Divides (wide f 34) (wide f 26) (wide f 22) (wide f 30)
  quotient z lo hi = divides (wide f 34) (wide f 26) (wide f 22) (wide f 30) (wide f 34) (wide f 38) (f 66) (f 67) (f 68) (f 69) (f 70) (limb f 30) (limb f 32) (limb f 26) (limb f 28) (product x s) (four _ _ _ _ z) refl refl refl lo hi

  -- results
  pub quotient_bits : (t : ℕ) → t ≤ 1 → Outcome t (limb f 22) (limb f 24) (limb f 71) (limb f 73) (f 75) (f 76) → IsBits (wide f 22) (wide f 71) t
  quotient_bits t l h = outcome t (limb f 22) (limb f 24) (limb f 71) (limb f 73) (f 75) (f 76) l h (small_limb _ _ (bound x s 22) (bound x s 23)) (small_limb _ _ (bound x s 24) (bound x s 25)) (small_limb _ _ (bound x s 71) (bound x s 72)) (small_limb _ _ (bound x s 73) (bound x s 74))

  pub rest_bits : (t : ℕ) → t ≤ 1 → Outcome t (limb f 30) (limb f 32) (limb f 71) (limb f 73) (f 75) (f 76) → IsBits (wide f 30) (wide f 71) t
  rest_bits t l h = outcome t (limb f 30) (limb f 32) (limb f 71) (limb f 73) (f 75) (f 76) l h (small_limb _ _ (bound x s 30) (bound x s 31)) (small_limb _ _ (bound x s 32) (bound x s 33)) (small_limb _ _ (bound x s 71) (bound x s 72)) (small_limb _ _ (bound x s 73) (bound x s 74))

  pub high_bits : (t : ℕ) → t ≤ 1 → HighOutcome t (limb f 38) (limb f 40) (limb f 71) (limb f 73) (f 62) (f 75) (f 76) → (f 62 ≡ 0 → f 34 + f 35 + f 36 + f 37 ≡ 0) → (f 62 ≡ 1 → f 34 + f 35 + f 36 + f 37 ≡ 1 + limb f 63) → IsHigh (wide f 34) (wide f 38) (wide f 71) t
  high_bits t l h z o = high_outcome t (wide f 34) (limb f 38) (limb f 40) (limb f 71) (limb f 73) (f 62) (f 75) (f 76) l h (bound x s 62) (λ e. four _ _ _ _ (z e)) (λ e. some_of_four _ _ _ _ _ (o e)) (small_limb _ _ (bound x s 71) (bound x s 72)) (small_limb _ _ (bound x s 73) (bound x s 74))

pub divisor_some : (n d q r : ℕ) → Divides n d q r → 0 < d
divisor_some n d q r h = lt_of_le_of_lt zero-le h.less
