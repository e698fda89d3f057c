-- The lines of Binary by numbers: what the row of an operation has to meet.
use Rattle.std.proofs.Common.{ℕ, zero, suc, ◌+◌, ◌-◌, ◌*◌, ◌/◌, ◌%◌, ◌^◌, ◌<◌, ◌≤◌, ◌≡◌, ◌≢◌, Bool, true, false, cond, ltb, refl, ap, arith}
use Rattle.std.proofs.lemmas.Bool.Decides.{nat_tests}
use Rattle.std.proofs.lemmas.Nat.{mul-le}

pub byte_le : (x v : ℕ) → x ≡ v % 256 → x ≤ 255
byte_le x v e = omega arith

pub half_le : (x v : ℕ) → x ≡ v % 65536 → x ≤ 65535
half_le x v e = omega arith

pub sign_le : (x v : ℕ) → x ≡ v / 9223372036854775808 → v < 2 ^ 64 → x ≤ 1
sign_le x v e h = omega arith

pub bit_le : (x v : ℕ) → x ≡ v % 2 → x ≤ 1
bit_le x v e = omega arith

pub seven_le : (x v : ℕ) → x ≡ v % 128 → x ≤ 127
seven_le x v e = omega arith

pub fifteen_le : (x v : ℕ) → x ≡ v % 32768 → x ≤ 32767
fifteen_le x v e = omega arith

-- the limbs of bytes, and of numbers of 16 bits
pub low_bytes : (x0 x1 x2 x3 v : ℕ) → x0 ≡ v % 256 → x1 ≡ v / 256 % 256 → x2 ≡ v / 65536 % 256 → x3 ≡ v / 16777216 % 256 → x0 + 256 * x1 + 65536 * x2 + 16777216 * x3 ≡ v % 4294967296
low_bytes x0 x1 x2 x3 v e0 e1 e2 e3 = omega arith

pub high_bytes : (x0 x1 x2 x3 v : ℕ) → v < 2 ^ 64 → x0 ≡ v / 4294967296 % 256 → x1 ≡ v / 1099511627776 % 256 → x2 ≡ v / 281474976710656 % 256 → x3 ≡ v / 72057594037927936 % 256 → x0 + 256 * x1 + 65536 * x2 + 16777216 * x3 ≡ v / 4294967296
high_bytes x0 x1 x2 x3 v h e0 e1 e2 e3 = omega arith

pub low_halves : (x0 x1 v : ℕ) → x0 ≡ v / 1 % 65536 → x1 ≡ v / 65536 % 65536 → x0 + 65536 * x1 ≡ v % 4294967296
low_halves x0 x1 v e0 e1 = omega arith

pub high_halves : (x0 x1 v : ℕ) → v < 2 ^ 64 → x0 ≡ v / 4294967296 % 65536 → x1 ≡ v / 281474976710656 % 65536 → x0 + 65536 * x1 ≡ v / 4294967296
high_halves x0 x1 v h e0 e1 = omega arith

-- lines 120 to 122
pub top_byte : (x s r v : ℕ) → v < 2 ^ 64 → x ≡ v / 72057594037927936 % 256 → s ≡ v / 9223372036854775808 → r ≡ v / 72057594037927936 % 128 → x ≡ 128 * s + r
top_byte x s r v h e f g = omega arith

pub top_half : (x s r v : ℕ) → x ≡ v / 65536 % 65536 → s ≡ v / 2147483648 % 2 → r ≡ v / 65536 % 32768 → x ≡ 32768 * s + r
top_half x s r v e f g = omega arith

-- lines 123 and 124 of a sum
pub low_sum_line : (a b al bl zl k : ℕ) → al ≡ a % 4294967296 → bl ≡ b % 4294967296 → zl ≡ (1 * a + b) % 2 ^ 64 % 4294967296 → k ≡ (1 * (a % 4294967296) + b % 4294967296) / 4294967296 → al + bl ≡ zl + 4294967296 * k
low_sum_line a b al bl zl k e f g h = omega arith

pub high_sum_line : (a b ah bh zh k k' : ℕ) → ah ≡ a / 4294967296 → bh ≡ b / 4294967296 → zh ≡ (1 * a + b) % 2 ^ 64 / 4294967296 → k ≡ (1 * (a % 4294967296) + b % 4294967296) / 4294967296 → k' ≡ (1 * (a / 4294967296) + b / 4294967296 + (1 * (a % 4294967296) + b % 4294967296) / 4294967296) / 4294967296 → ah + bh + k ≡ zh + 4294967296 * k'
high_sum_line a b ah bh zh k k' e f g h i = omega arith

-- the same with a factor
pub low_scaled_line : (m a b al bl zl j : ℕ) → al ≡ a % 4294967296 → bl ≡ b % 4294967296 → zl ≡ (m * a + b) % 2 ^ 64 % 4294967296 → j ≡ (m * (a % 4294967296) + b % 4294967296) / 4294967296 → m * al + bl ≡ zl + 4294967296 * j
low_scaled_line m a b al bl zl j e f g h =
    let d : a ≡ 4294967296 * (a / 4294967296) + a % 4294967296 = omega arith in
    omega (arith, ap (λ z. m * z) d, ap (λ z. m * z) e)

pub high_scaled_line : (m a b ah bh zh j j' : ℕ) → ah ≡ a / 4294967296 → bh ≡ b / 4294967296 → zh ≡ (m * a + b) % 2 ^ 64 / 4294967296 → j ≡ (m * (a % 4294967296) + b % 4294967296) / 4294967296 → j' ≡ (m * (a / 4294967296) + b / 4294967296 + (m * (a % 4294967296) + b % 4294967296) / 4294967296) / 4294967296 → m * ah + bh + j ≡ zh + 4294967296 * j'
high_scaled_line m a b ah bh zh j j' e f g h i =
    let d : a ≡ 4294967296 * (a / 4294967296) + a % 4294967296 = omega arith in
    omega (arith, ap (λ z. m * z) d, ap (λ z. m * z) e)

-- and of a difference
pub low_difference_line : (a b al bl zl k : ℕ) → a < 2 ^ 64 → b < 2 ^ 64 → al ≡ a % 4294967296 → bl ≡ b % 4294967296 → zl ≡ (a + (2 ^ 64 - b)) % 2 ^ 64 % 4294967296 → k ≡ cond (ltb (a % 4294967296) (b % 4294967296)) 1 0 → bl + zl ≡ al + 4294967296 * k
low_difference_line a b al bl zl k l m e f g h = grind (arith, nat_tests)

pub high_difference_line : (a b ah bh zh k k' : ℕ) → a < 2 ^ 64 → b < 2 ^ 64 → ah ≡ a / 4294967296 → bh ≡ b / 4294967296 → zh ≡ (a + (2 ^ 64 - b)) % 2 ^ 64 / 4294967296 → k ≡ cond (ltb (a % 4294967296) (b % 4294967296)) 1 0 → k' ≡ cond (ltb a b) 1 0 → bh + zh + k ≡ ah + 4294967296 * k'
high_difference_line a b ah bh zh k k' l m e f g h i = grind (arith, nat_tests)

pub one_le : (x : ℕ) (t : Bool) → x ≡ cond t 1 0 → x ≤ 1
one_le x true e = omega arith
one_le x false e = omega arith

pub carry_le : (x m a b : ℕ) → m ≤ 8 → x ≡ (m * (a % 4294967296) + b % 4294967296) / 4294967296 → x ≤ m
carry_le x m a b h e = let d : m * (a % 4294967296) ≤ m * 4294967295 = omega (arith, mul-le _ _ _ _ (le_self m) (low a)) in omega arith
  where
    le_self : (m : ℕ) → m ≤ m
    le_self m = omega arith

    low : (a : ℕ) → a % 4294967296 ≤ 4294967295
    low a = omega arith

pub high_carry_le : (x m a b : ℕ) → m ≤ 8 → a < 2 ^ 64 → b < 2 ^ 64 → x ≡ (m * (a / 4294967296) + b / 4294967296 + (m * (a % 4294967296) + b % 4294967296) / 4294967296) / 4294967296 → x ≤ m
high_carry_le x m a b h la lb e =
    let d : m * (a % 4294967296) ≤ m * 4294967295 = omega (arith, mul-le _ _ _ _ (le_self m) (low a)) in
    let d' : m * (a / 4294967296) ≤ m * 4294967295 = omega (arith, mul-le _ _ _ _ (le_self m) (high a la)) in
    omega arith
  where
    le_self : (m : ℕ) → m ≤ m
    le_self m = omega arith

    low : (a : ℕ) → a % 4294967296 ≤ 4294967295
    low a = omega arith

    high : (a : ℕ) → a < 2 ^ 64 → a / 4294967296 ≤ 4294967295
    high a h = omega arith

-- lines 125 and 126: the sum of the halves of a difference
pub no_halves : (a b x0 x1 x2 x3 : ℕ) → a ≡ b → b < 2 ^ 64 → x0 ≡ (a + (2 ^ 64 - b)) % 2 ^ 64 / 1 % 65536 → x1 ≡ (a + (2 ^ 64 - b)) % 2 ^ 64 / 65536 % 65536 → x2 ≡ (a + (2 ^ 64 - b)) % 2 ^ 64 / 4294967296 % 65536 → x3 ≡ (a + (2 ^ 64 - b)) % 2 ^ 64 / 281474976710656 % 65536 → x0 + x1 + x2 + x3 ≡ 0
no_halves a b x0 x1 x2 x3 e h e0 e1 e2 e3 = let z : (a + (2 ^ 64 - b)) % 2 ^ 64 ≡ 0 = omega (arith, e, h) in omega arith

no_half : (v : ℕ) → v < 2 ^ 64 → v / 1 % 65536 ≡ 0 → v / 65536 % 65536 ≡ 0 → v / 4294967296 % 65536 ≡ 0 → v / 281474976710656 % 65536 ≡ 0 → v ≡ 0
no_half v h e0 e1 e2 e3 = omega arith

apart : (a b : ℕ) → a < 2 ^ 64 → b < 2 ^ 64 → a ≢ b → (a + (2 ^ 64 - b)) % 2 ^ 64 ≢ 0
apart a b l m n = λ z. n (same z)
  where
    same : (a + (2 ^ 64 - b)) % 2 ^ 64 ≡ 0 → a ≡ b
    same z = omega arith

half_set : (v : ℕ) → v < 2 ^ 64 → v ≢ 0 → 1 ≤ 0 + v / 1 % 65536 + v / 65536 % 65536 + v / 4294967296 % 65536 + v / 281474976710656 % 65536
half_set v h n = some (v / 1 % 65536) (v / 65536 % 65536) (v / 4294967296 % 65536) (v / 281474976710656 % 65536) (λ a b c d. n (no_half v h a b c d))
  where
    some : (a b c d : ℕ) → (a ≡ 0 → b ≡ 0 → c ≡ 0 → d ≡ 0 → ⊥) → 1 ≤ 0 + a + b + c + d
    some zero zero zero zero h = absurd (h refl refl refl refl)
    some (suc a) b c d h = omega arith
    some zero (suc b) c d h = omega arith
    some zero zero (suc c) d h = omega arith
    some zero zero zero (suc d) h = omega arith

-- the limbs of a sum less 1
less_one : (x s e0 e1 : ℕ) → x ≡ s → 1 ≤ s → e0 ≡ (s - 1) % 65536 → e1 ≡ (s - 1) / 65536 → x ≡ 1 + (e0 + 65536 * e1)
less_one x s e0 e1 a l f g = omega arith

sum_4 : (x0 x1 x2 x3 y0 y1 y2 y3 : ℕ) → x0 ≡ y0 → x1 ≡ y1 → x2 ≡ y2 → x3 ≡ y3 → x0 + x1 + x2 + x3 ≡ 0 + y0 + y1 + y2 + y3
sum_4 x0 x1 x2 x3 y0 y1 y2 y3 a b c d = omega arith

sum_8 : (x0 x1 x2 x3 x4 x5 x6 x7 y0 y1 y2 y3 y4 y5 y6 y7 : ℕ) → x0 ≡ y0 → x1 ≡ y1 → x2 ≡ y2 → x3 ≡ y3 → x4 ≡ y4 → x5 ≡ y5 → x6 ≡ y6 → x7 ≡ y7 → x0 + x1 + x2 + x3 + x4 + x5 + x6 + x7 ≡ 0 + y0 + y1 + y2 + y3 + y4 + y5 + y6 + y7
sum_8 x0 x1 x2 x3 x4 x5 x6 x7 y0 y1 y2 y3 y4 y5 y6 y7 a b c d e f g h = omega arith

pub some_halves : (v x0 x1 x2 x3 e0 e1 : ℕ) → v < 2 ^ 64 → v ≢ 0 → x0 ≡ v / 1 % 65536 → x1 ≡ v / 65536 % 65536 → x2 ≡ v / 4294967296 % 65536 → x3 ≡ v / 281474976710656 % 65536 → e0 ≡ (0 + v / 1 % 65536 + v / 65536 % 65536 + v / 4294967296 % 65536 + v / 281474976710656 % 65536 - 1) % 65536 → e1 ≡ (0 + v / 1 % 65536 + v / 65536 % 65536 + v / 4294967296 % 65536 + v / 281474976710656 % 65536 - 1) / 65536 → x0 + x1 + x2 + x3 ≡ 1 + (e0 + 65536 * e1)
some_halves v x0 x1 x2 x3 e0 e1 h n a b c d f g = less_one _ _ e0 e1 (sum_4 _ _ _ _ _ _ _ _ a b c d) (half_set v h n) f g

-- a byte that isn't 0
byte_set : (x0 x1 x2 x3 x4 x5 x6 x7 v : ℕ) → x0 + 256 * x1 + 65536 * x2 + 16777216 * x3 ≡ v % 4294967296 → x4 + 256 * x5 + 65536 * x6 + 16777216 * x7 ≡ v / 4294967296 → v ≢ 0 → 1 ≤ x0 + x1 + x2 + x3 + x4 + x5 + x6 + x7
byte_set x0 x1 x2 x3 x4 x5 x6 x7 v e f n = omega arith

one_more : (x s e0 e1 : ℕ) → x ≡ s → 1 ≤ x → e0 ≡ (s - 1) % 65536 → e1 ≡ (s - 1) / 65536 → x ≡ 1 + (e0 + 65536 * e1)
one_more x s e0 e1 a l f g = omega arith

module _ (v x0 x1 x2 x3 x4 x5 x6 x7 : ℕ) (h : v < 2 ^ 64) (a : x0 ≡ v % 256) (b : x1 ≡ v / 256 % 256) (c : x2 ≡ v / 65536 % 256) (d : x3 ≡ v / 16777216 % 256) (e : x4 ≡ v / 4294967296 % 256) (f : x5 ≡ v / 1099511627776 % 256) (g : x6 ≡ v / 281474976710656 % 256) (i : x7 ≡ v / 72057594037927936 % 256) where
  pub some_bytes : (e0 e1 : ℕ) → v ≢ 0 → e0 ≡ (0 + v % 256 + v / 256 % 256 + v / 65536 % 256 + v / 16777216 % 256 + v / 4294967296 % 256 + v / 1099511627776 % 256 + v / 281474976710656 % 256 + v / 72057594037927936 % 256 - 1) % 65536 → e1 ≡ (0 + v % 256 + v / 256 % 256 + v / 65536 % 256 + v / 16777216 % 256 + v / 4294967296 % 256 + v / 1099511627776 % 256 + v / 281474976710656 % 256 + v / 72057594037927936 % 256 - 1) / 65536 → x0 + x1 + x2 + x3 + x4 + x5 + x6 + x7 ≡ 1 + (e0 + 65536 * e1)
  some_bytes e0 e1 n j k =
      one_more _ _ e0 e1 (sum_8 _ _ _ _ _ _ _ _ _ _ _ _ _ _ _ _ a b c d e f g i) (byte_set _ _ _ _ _ _ _ _ v (low_bytes _ _ _ _ v a b c d) (high_bytes _ _ _ _ v h e f g i) n) j k

  pub no_bytes : v ≡ 0 → x0 + x1 + x2 + x3 + x4 + x5 + x6 + x7 ≡ 0
  no_bytes z = let l = low_bytes x0 x1 x2 x3 v a b c d in let m = high_bytes x4 x5 x6 x7 v h e f g i in all_none _ _ _ _ _ _ _ _ v l m z
    where
      all_none : (x0 x1 x2 x3 x4 x5 x6 x7 v : ℕ) → x0 + 256 * x1 + 65536 * x2 + 16777216 * x3 ≡ v % 4294967296 → x4 + 256 * x5 + 65536 * x6 + 16777216 * x7 ≡ v / 4294967296 → v ≡ 0 → x0 + x1 + x2 + x3 + x4 + x5 + x6 + x7 ≡ 0
      all_none x0 x1 x2 x3 x4 x5 x6 x7 v e f z = omega arith

pub apart_is : (a b : ℕ) → a < 2 ^ 64 → b < 2 ^ 64 → a ≢ b → (a + (2 ^ 64 - b)) % 2 ^ 64 ≢ 0
apart_is a b l m n = apart a b l m n
