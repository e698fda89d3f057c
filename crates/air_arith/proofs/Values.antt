-- The values of Arith's operations, by the magnitudes of the operands.
use Rattle.std.proofs.Common.{ℕ, zero, suc, ◌+◌, ◌-◌, ◌*◌, ◌/◌, ◌%◌, ◌<◌, ◌≤◌, ◌≡◌, ◌==◌, true, false, cond, ℤ, pos, ◌*ℤ◌, int_div, int_rem, sym, ap, ◌∙◌, arith}
use Rattle.std.proofs.lemmas.Bool.Decides.{nat_tests}
use Rattle.std.specs.Int.{cast_signed, int_shr, w32, w64}
use Rattle.rv_word.specs.declared.instr.OpNo.TheVariants as ops
use Rattle.rv_model.specs.Op.{value_of, word, bits_of, signed, signed_low}
use Rattle.air_arith.proofs.Twos.{word_plus, word_minus}
use Rattle.air_arith.proofs.Signed.{by_sign, sign_of, IsSize, not_negative, negative, signed_size, quotient_sign, rest_sign, product_sign, IsBits, same, turned, bits_sign, IsHigh, high_sign, Divides, quotient_is, rest_is}

is_zero : (b : ℕ) → b ≡ 0 → (b == 0) ≡ true
is_zero b h = grind (arith, nat_tests)

not_zero : (b : ℕ) → 0 < b → (b == 0) ≡ false
not_zero b h = grind (arith, nat_tests)

-- quotients and remainders of signed numbers
quotient_bits : (a b : ℤ) (m d q r z s t : ℕ) → a ≡ by_sign s m → b ≡ by_sign t d → Divides m d q r → IsBits q z (sign_of s t) → bits_of (int_div a b) ≡ z
quotient_bits a b m d q r z s t e g h k =
    (λ i. bits_of (int_div (e i) (g i))) ∙ ap bits_of (quotient_sign s t m d (positive r d h.less)) ∙ ap (λ v. bits_of (by_sign (sign_of s t) v)) (quotient_is m d q r h) ∙ bits_sign q z (sign_of s t) k
  where
    positive : (r d : ℕ) → r < d → 0 < d
    positive r d l = omega arith

rest_bits : (a b : ℤ) (m d q r z s t : ℕ) → a ≡ by_sign s m → b ≡ by_sign t d → Divides m d q r → IsBits r z s → bits_of (int_rem a b) ≡ z
rest_bits a b m d q r z s t e g h k =
    (λ i. bits_of (int_rem (e i) (g i))) ∙ ap bits_of (rest_sign s t m d) ∙ ap (λ v. bits_of (by_sign s v)) (rest_is m d q r h) ∙ bits_sign r z s k

high_bits : (a b : ℤ) (m d low high z s t : ℕ) → a ≡ by_sign s m → b ≡ by_sign t d → m * d ≡ low + 18446744073709551616 * high → low < 18446744073709551616 → high < 18446744073709551616 → IsHigh low high z (sign_of s t) → bits_of (int_shr (a *ℤ b) 64) ≡ z
high_bits a b m d low high z s t e g h k l o =
    (λ i. bits_of (int_shr (e i *ℤ g i) 64)) ∙ ap (λ v. bits_of (int_shr v 64)) (product_sign s t m d) ∙ high_sign (m * d) low high z (sign_of s t) h k l o

-- a small number's 64 bits are sign-extended already
pub extended : (r z s : ℕ) → IsBits r z s → r < 2147483648 → word z ≡ z
extended r z s (same e) l = word_plus z z (omega arith) (omega arith)
extended r z s (turned k e b m) l = by k e
  where
    none : (r z : ℕ) → r + z ≡ 18446744073709551616 * 0 → z ≡ 0
    none r z e = omega arith

    low : (r z : ℕ) → r + z ≡ 18446744073709551616 → 0 < r → r < 2147483648 → z % 4294967296 ≡ 4294967296 - r
    low r z e h l = omega arith

    whole : (r z k : ℕ) → r + z ≡ 18446744073709551616 * suc k → z < 18446744073709551616 → r ≤ 18446744073709551616 → (r + z ≡ 18446744073709551616) × (0 < r)
    whole r z k e m b = (omega arith, omega arith)

    by : (k : ℕ) → r + z ≡ 18446744073709551616 * k → word z ≡ z
    by zero e = word_plus z z (omega (arith, none r z e)) (omega (arith, none r z e))
    by (suc k) e =
        let w = whole r z k e m b in
        word_minus z (4294967296 - r) (low r z w.0 w.1 l) (omega (arith, w.1)) (omega (arith, w.1)) ∙ omega (arith, w.0, w.1)

-- what two numbers with the same low 32 bits are sign-extended to
pub word_same : (n m : ℕ) → n % 4294967296 ≡ m % 4294967296 → word n ≡ word m
word_same n m e = ap (λ v. bits_of (cast_signed w32 v)) e

-- the dividend again, in a division by zero
pub again_64 : (a m z s : ℕ) → IsSize w64 a m s → IsBits m z s → z ≡ a
again_64 a m z s (not_negative l e) (same h) = omega arith
again_64 a m z s (negative l k e) (turned j h b c) = omega arith

pub again_32 : (a m z s : ℕ) → IsSize w32 a m s → IsBits m z s → z % 4294967296 ≡ a
again_32 a m z s (not_negative l e) (same h) = omega arith
again_32 a m z s (negative l k e) (turned j h b c) = omega arith

module _ (a b : ℕ) where
  pub mul_value : (w v : ℕ) → a * b ≡ w + 18446744073709551616 * v → w < 18446744073709551616 → value_of ops.Mul a b ≡ w
  unfolding value_of
  mul_value w v e l = ap (λ z. z % 18446744073709551616) e ∙ low w v l
    where
      low : (w v : ℕ) → w < 18446744073709551616 → (w + 18446744073709551616 * v) % 18446744073709551616 ≡ w
      low w v l = omega arith

  pub mulhu_value : (w v : ℕ) → a * b ≡ w + 18446744073709551616 * v → w < 18446744073709551616 → value_of ops.Mulhu a b ≡ v
  unfolding value_of
  mulhu_value w v e l = ap (λ z. z / 18446744073709551616) e ∙ high w v l
    where
      high : (w v : ℕ) → w < 18446744073709551616 → (w + 18446744073709551616 * v) / 18446744073709551616 ≡ v
      high w v l = omega arith

  pub mulw_value : (x y : ℕ) → a % 4294967296 ≡ x → b % 4294967296 ≡ y → value_of ops.Mulw a b ≡ word (x * y)
  unfolding value_of
  mulw_value x y e f = word_same (a * b) (x * y) (low (a * b) (x * y) (a / 4294967296 * b + x * (b / 4294967296)) (parts (a / 4294967296) (b / 4294967296) (split a x e) (split b y f)))
    where
      split : (a x : ℕ) → a % 4294967296 ≡ x → a ≡ x + 4294967296 * (a / 4294967296)
      split a x e = omega arith

      parts : (u v : ℕ) → a ≡ x + 4294967296 * u → b ≡ y + 4294967296 * v → a * b ≡ x * y + 4294967296 * (u * b + x * v)
      parts u v e f = omega (arith, ap (λ z. z * b) e, ap (λ z. x * z) f)

      low : (n m k : ℕ) → n ≡ m + 4294967296 * k → n % 4294967296 ≡ m % 4294967296
      low n m k e = omega arith

  pub divu_zero : b ≡ 0 → value_of ops.Divu a b ≡ 18446744073709551615
  unfolding value_of
  divu_zero e = ap (λ t. cond t 18446744073709551615 (a / b)) (is_zero b e)

  pub divu_value : (q r : ℕ) → Divides a b q r → value_of ops.Divu a b ≡ q
  unfolding value_of
  divu_value q r h = ap (λ t. cond t 18446744073709551615 (a / b)) (not_zero b (omega (arith, h.less))) ∙ quotient_is a b q r h

  pub remu_zero : b ≡ 0 → value_of ops.Remu a b ≡ a
  unfolding value_of
  remu_zero e = ap (λ t. cond t a (a % b)) (is_zero b e)

  pub remu_value : (q r : ℕ) → Divides a b q r → value_of ops.Remu a b ≡ r
  unfolding value_of
  remu_value q r h = ap (λ t. cond t a (a % b)) (not_zero b (omega (arith, h.less))) ∙ rest_is a b q r h

  pub div_zero : b ≡ 0 → value_of ops.Div a b ≡ 18446744073709551615
  unfolding value_of
  div_zero e = ap (λ t. cond t 18446744073709551615 (bits_of (int_div (signed a) (signed b)))) (is_zero b e)

  pub rem_zero : b ≡ 0 → value_of ops.Rem a b ≡ a
  unfolding value_of
  rem_zero e = ap (λ t. cond t a (bits_of (int_rem (signed a) (signed b)))) (is_zero b e)

  module _ (m d s t : ℕ) (first : IsSize w64 a m s) where
    pub mulhsu_value : (low high z : ℕ) → d ≡ b → m * d ≡ low + 18446744073709551616 * high → low < 18446744073709551616 → high < 18446744073709551616 → IsHigh low high z (sign_of s 0) → value_of ops.Mulhsu a b ≡ z
    unfolding value_of
    mulhsu_value low high z e h k l o = high_bits (signed a) (pos b) m d low high z s 0 (signed_size w64 a m s first) (ap pos (sym e)) h k l o

    module _ (second : IsSize w64 b d t) where
      pub mulh_value : (low high z : ℕ) → m * d ≡ low + 18446744073709551616 * high → low < 18446744073709551616 → high < 18446744073709551616 → IsHigh low high z (sign_of s t) → value_of ops.Mulh a b ≡ z
      unfolding value_of
      mulh_value low high z h k l o = high_bits (signed a) (signed b) m d low high z s t (signed_size w64 a m s first) (signed_size w64 b d t second) h k l o

      pub div_value : (q r z : ℕ) → 0 < b → Divides m d q r → IsBits q z (sign_of s t) → value_of ops.Div a b ≡ z
      unfolding value_of
      div_value q r z p h k = ap (λ t. cond t 18446744073709551615 (bits_of (int_div (signed a) (signed b)))) (not_zero b p) ∙ quotient_bits (signed a) (signed b) m d q r z s t (signed_size w64 a m s first) (signed_size w64 b d t second) h k

      pub rem_value : (q r z : ℕ) → 0 < b → Divides m d q r → IsBits r z s → value_of ops.Rem a b ≡ z
      unfolding value_of
      rem_value q r z p h k = ap (λ t. cond t a (bits_of (int_rem (signed a) (signed b)))) (not_zero b p) ∙ rest_bits (signed a) (signed b) m d q r z s t (signed_size w64 a m s first) (signed_size w64 b d t second) h k

-- the same of the low 32 bits x and y
module _ (a b x y : ℕ) (first_low : a % 4294967296 ≡ x) (second_low : b % 4294967296 ≡ y) where
  low_zero : y ≡ 0 → (b % 4294967296 == 0) ≡ true
  low_zero e = is_zero (b % 4294967296) (second_low ∙ e)

  low_some : 0 < y → (b % 4294967296 == 0) ≡ false
  low_some h = not_zero (b % 4294967296) (omega (arith, second_low))

  pub divuw_zero : y ≡ 0 → value_of ops.Divuw a b ≡ 18446744073709551615
  unfolding value_of
  divuw_zero e = ap (λ t. cond t 18446744073709551615 (word (a % 4294967296 / (b % 4294967296)))) (low_zero e)

  pub divuw_value : (q r : ℕ) → Divides x y q r → value_of ops.Divuw a b ≡ word q
  unfolding value_of
  divuw_value q r h = ap (λ t. cond t 18446744073709551615 (word (a % 4294967296 / (b % 4294967296)))) (low_some (omega (arith, h.less))) ∙ (λ i. word (first_low i / second_low i)) ∙ ap word (quotient_is x y q r h)

  pub remuw_zero : y ≡ 0 → value_of ops.Remuw a b ≡ word a
  unfolding value_of
  remuw_zero e = ap (λ t. cond t (word a) (word (a % 4294967296 % (b % 4294967296)))) (low_zero e)

  pub remuw_value : (q r : ℕ) → Divides x y q r → value_of ops.Remuw a b ≡ word r
  unfolding value_of
  remuw_value q r h = ap (λ t. cond t (word a) (word (a % 4294967296 % (b % 4294967296)))) (low_some (omega (arith, h.less))) ∙ (λ i. word (first_low i % second_low i)) ∙ ap word (rest_is x y q r h)

  pub divw_zero : y ≡ 0 → value_of ops.Divw a b ≡ 18446744073709551615
  unfolding value_of
  divw_zero e = ap (λ t. cond t 18446744073709551615 (word (bits_of (int_div (signed_low a) (signed_low b))))) (low_zero e)

  pub remw_zero : y ≡ 0 → value_of ops.Remw a b ≡ word a
  unfolding value_of
  remw_zero e = ap (λ t. cond t (word a) (bits_of (int_rem (signed_low a) (signed_low b)))) (low_zero e)

  module _ (m d s t : ℕ) (first : IsSize w32 x m s) (second : IsSize w32 y d t) where
    first_is : signed_low a ≡ by_sign s m
    first_is = ap (cast_signed w32) first_low ∙ signed_size w32 x m s first

    second_is : signed_low b ≡ by_sign t d
    second_is = ap (cast_signed w32) second_low ∙ signed_size w32 y d t second

    pub divw_value : (q r z : ℕ) → 0 < y → Divides m d q r → IsBits q z (sign_of s t) → value_of ops.Divw a b ≡ word z
    unfolding value_of
    divw_value q r z p h k = ap (λ t. cond t 18446744073709551615 (word (bits_of (int_div (signed_low a) (signed_low b))))) (low_some p) ∙ ap word (quotient_bits (signed_low a) (signed_low b) m d q r z s t first_is second_is h k)

    pub remw_value : (q r z : ℕ) → 0 < y → Divides m d q r → IsBits r z s → value_of ops.Remw a b ≡ z
    unfolding value_of
    remw_value q r z p h k = ap (λ t. cond t (word a) (bits_of (int_rem (signed_low a) (signed_low b)))) (low_some p) ∙ rest_bits (signed_low a) (signed_low b) m d q r z s t first_is second_is h k

-- all ones, sign-extended from any 32 of them
pub word_ones : (z : ℕ) → 18446744073709551615 ≡ z → 18446744073709551615 ≡ word z
word_ones z e = sym (word_minus z 4294967295 (low z e) (omega arith) (omega arith))
  where
    low : (z : ℕ) → 18446744073709551615 ≡ z → z % 4294967296 ≡ 4294967295
    low z e = omega arith
