-- The lines that are owed for the row of an operation, over plain numbers. The tests of the operation's number are
-- Bools here: `wide` tells 64 bits, `signed` that an operand's sign is counted.
use Rattle.std.proofs.Common.{ℕ, zero, suc, ◌+◌, ◌-◌, ◌*◌, ◌/◌, ◌%◌, ◌^◌, ◌<◌, ◌≤◌, ◌≡◌, ◌≢◌, ◌==◌, Bool, true, false, cond, refl, sym, ap, ◌∙◌, div-add-mod', arith}
use Rattle.std.proofs.lemmas.Bool.{false≢true}
use Rattle.std.proofs.lemmas.Bool.Decides.{nat_tests}
use Rattle.step_rows.specs.Words.{digit}
use Rattle.step_rows.specs.ArithRow.{size, differ, carry_of, turned, k1_of, k2_of}
use Rattle.air_arith.proofs.Numbers.{limb}
use Rattle.air_arith.proofs.Shown.{Top, SizeLow, SizeHigh, OutLow, OutHigh, HalfAnd, DivisorAnd, ResultAnd, result_at}

pub above_one : (s : ℕ) → suc (suc s) ≤ 1 → ⊥
above_one s l = omega arith

zero_not_one : (k : ℕ) → k ≡ 0 → k ≡ 1 → ⊥
zero_not_one k e h = omega arith

-- ---- operands

-- the sign bit of an operand, and the operand as it is used
abbrev pub top_bit : Bool → ℕ → ℕ
top_bit wide v = cond wide (v / 2 ^ 63) (v / 2 ^ 31 % 2)

abbrev pub taken : Bool → ℕ → ℕ → ℕ
taken wide s v = cond wide v (v % 2 ^ 32 + 2 ^ 32 * (s * (2 ^ 32 - 1)))

pub top_bit_le : (wide : Bool) (v : ℕ) → v < 18446744073709551616 → top_bit wide v ≤ 1
top_bit_le true v l = omega arith
top_bit_le false v l = omega arith

pub counted_le : (signed wide : Bool) (v : ℕ) → v < 18446744073709551616 → cond signed (top_bit wide v) 0 ≤ 1
counted_le true wide v l = top_bit_le wide v l
counted_le false wide v l = omega arith

pub counted_is : (signed wide : Bool) (v : ℕ) → cond signed (top_bit wide v) 0 ≡ 1 → top_bit wide v ≡ 1
counted_is true wide v e = e
counted_is false wide v e = absurd (zero_not_one 0 refl e)

pub top_split : (wide : Bool) (v : ℕ) → v < 18446744073709551616 → cond wide (digit v 3) (digit v 1) ≡ 32768 * top_bit wide v + cond wide (digit v 3) (digit v 1) % 2 ^ 15
top_split true v l = split_64 v l
  where
    split_64 : (v : ℕ) → v < 18446744073709551616 → v / 281474976710656 % 65536 ≡ 32768 * (v / 9223372036854775808) + v / 281474976710656 % 65536 % 32768
    split_64 v l = omega arith
top_split false v l = split_32 v
  where
    split_32 : (v : ℕ) → v / 65536 % 65536 ≡ 32768 * (v / 2147483648 % 2) + v / 65536 % 65536 % 32768
    split_32 v = omega arith

-- lines 241 and 242
pub top_line : (signed : Bool) (bit x y z : ℕ) → bit ≤ 1 → y ≡ bit → x ≡ 32768 * bit + z → Top signed (cond signed bit 0) x y z
top_line false bit x y z l h e = omega arith
top_line true zero x y z l h e = omega arith
top_line true (suc zero) x y z l h e = omega arith
top_line true (suc (suc bit)) x y z l h e = absurd (above_one bit l)

pub size_lt : (wide : Bool) (s v : ℕ) → s ≤ 1 → v < 18446744073709551616 → (s ≡ 1 → top_bit wide v ≡ 1) → size s (taken wide s v) < 18446744073709551616
size_lt true zero v l h t = h
size_lt false zero v l h t = omega arith
size_lt true (suc zero) v l h t = some v (t refl)
  where
    some : (v : ℕ) → v / 9223372036854775808 ≡ 1 → 18446744073709551616 - v < 18446744073709551616
    some v e = omega arith
size_lt false (suc zero) v l h t = some v
  where
    some : (v : ℕ) → 18446744073709551616 - (v % 4294967296 + 18446744069414584320) < 18446744073709551616
    some v = omega arith
size_lt wide (suc (suc s)) v l h t = absurd (above_one s l)

-- lines 243 to 246
pub size_low : (wide : Bool) (s v m lo k : ℕ) → s ≤ 1 → v < 18446744073709551616 → m ≡ size s (taken wide s v) % 4294967296 → lo ≡ v % 4294967296 → k ≡ carry_of s (size s (taken wide s v)) (taken wide s v) → SizeLow s m lo k
size_low true zero v m lo k l h e f g = omega arith
size_low false zero v m lo k l h e f g = omega arith
size_low true (suc zero) v m lo k l h e f g = some v m lo k h e f g
  where
    some : (v m lo k : ℕ) → v < 18446744073709551616 → m ≡ (18446744073709551616 - v) % 4294967296 → lo ≡ v % 4294967296 → k ≡ ((18446744073709551616 - v) % 4294967296 + v % 4294967296) / 4294967296 → m + lo ≡ 4294967296 * k
    some v m lo k h e f g = omega arith
size_low false (suc zero) v m lo k l h e f g = some v m lo k e f g
  where
    some : (v m lo k : ℕ) → m ≡ (18446744073709551616 - (v % 4294967296 + 18446744069414584320)) % 4294967296 → lo ≡ v % 4294967296 → k ≡ ((18446744073709551616 - (v % 4294967296 + 18446744069414584320)) % 4294967296 + (v % 4294967296 + 18446744069414584320) % 4294967296) / 4294967296 → m + lo ≡ 4294967296 * k
    some v m lo k e f g = omega arith
size_low wide (suc (suc s)) v m lo k l h e f g = absurd (above_one s l)

pub size_high : (wide : Bool) (s v m hi k : ℕ) → s ≤ 1 → v < 18446744073709551616 → m ≡ size s (taken wide s v) / 4294967296 → hi ≡ cond wide (v / 4294967296) (s * 4294967295) → k ≡ carry_of s (size s (taken wide s v)) (taken wide s v) → SizeHigh s m hi k
size_high true zero v m hi k l h e f g = omega arith
size_high false zero v m hi k l h e f g = omega arith
size_high true (suc zero) v m hi k l h e f g = some v m hi k h e f g
  where
    some : (v m hi k : ℕ) → v < 18446744073709551616 → m ≡ (18446744073709551616 - v) / 4294967296 → hi ≡ v / 4294967296 → k ≡ ((18446744073709551616 - v) % 4294967296 + v % 4294967296) / 4294967296 → m + hi + k ≡ 4294967296
    some v m hi k h e f g = omega arith
size_high false (suc zero) v m hi k l h e f g = some v m hi k e f g
  where
    some : (v m hi k : ℕ) → m ≡ (18446744073709551616 - (v % 4294967296 + 18446744069414584320)) / 4294967296 → hi ≡ 4294967295 → k ≡ ((18446744073709551616 - (v % 4294967296 + 18446744069414584320)) % 4294967296 + (v % 4294967296 + 18446744069414584320) % 4294967296) / 4294967296 → m + hi + k ≡ 4294967296
    some v m hi k e f g = omega arith
size_high wide (suc (suc s)) v m hi k l h e f g = absurd (above_one s l)

pub carry_le : (s u v : ℕ) → carry_of s u v ≤ 1
carry_le zero u v = omega arith
carry_le (suc s) u v = omega arith

-- ---- quotients and remainders

pub whole_of : (divides : Bool) (u v : ℕ) → divides ≡ true → cond divides (u / v) u * v + cond divides (u % v) 0 ≡ u
whole_of true u v e = div-add-mod' u v
whole_of false u v e = absurd (false≢true e)

pub no_digits : (a b c d v : ℕ) → v ≡ 0 → a ≡ v / 1 % 65536 → b ≡ v / 65536 % 65536 → c ≡ v / 4294967296 % 65536 → d ≡ v / 281474976710656 % 65536 → a + b + c + d ≡ 0
no_digits a b c d v z e f g h = omega arith

pub no_high : (a b c d w : ℕ) → w < 18446744073709551616 → a ≡ w / 18446744073709551616 % 65536 → b ≡ w / 1208925819614629174706176 % 65536 → c ≡ w / 79228162514264337593543950336 % 65536 → d ≡ w / 5192296858534827628530496329220096 % 65536 → a + b + c + d ≡ 0
no_high a b c d w l e f g h = omega arith

-- the remainder and the gap make the divisor
gap_low : (r v g kg r0 g0 g1 v0 : ℕ) → r < v → g ≡ v - suc r → kg ≡ (r % 4294967296 + g % 4294967296 + 1) / 4294967296 → r0 ≡ r % 4294967296 → g0 ≡ g / 1 % 65536 → g1 ≡ g / 65536 % 65536 → v0 ≡ v % 4294967296 → r0 + g0 + 65536 * g1 + 1 ≡ v0 + 4294967296 * kg
gap_low r v g kg r0 g0 g1 v0 l e k er e0 e1 ev = omega arith

gap_high : (r v g kg r1 g2 g3 v1 : ℕ) → r < v → v < 18446744073709551616 → g ≡ v - suc r → kg ≡ (r % 4294967296 + g % 4294967296 + 1) / 4294967296 → r1 ≡ r / 4294967296 → g2 ≡ g / 4294967296 % 65536 → g3 ≡ g / 281474976710656 % 65536 → v1 ≡ v / 4294967296 → r1 + g2 + 65536 * g3 + kg ≡ v1
gap_high r v g kg r1 g2 g3 v1 l m e k er e2 e3 ev = omega arith

is_none : (v : ℕ) → (v == 0) ≡ true → v ≡ 0
is_none v e = grind (arith, nat_tests)

is_some : (v : ℕ) → (v == 0) ≡ false → v ≢ 0
is_some v e z = grind (arith, nat_tests)

never_zero : (k m : ℕ) → suc k ≡ m → m ≡ 0 → ⊥
never_zero k m e f = omega arith

-- lines 259 to 261
pub divisor_and : (f : ℕ → ℕ) (divides none : Bool) (zb v r : ℕ) {T : Type 0} → zb ≡ cond divides (cond none 1 0) 0 → (v == 0) ≡ none → v < 18446744073709551616 → (divides ≡ true → v ≢ 0 → r < v)
    → f 26 ≡ digit v 0 → f 27 ≡ digit v 1 → f 28 ≡ digit v 2 → f 29 ≡ digit v 3
    → f 66 ≡ digit (cond divides (cond none 0 (v - suc r)) 0) 0 → f 67 ≡ digit (cond divides (cond none 0 (v - suc r)) 0) 1 → f 68 ≡ digit (cond divides (cond none 0 (v - suc r)) 0) 2 → f 69 ≡ digit (cond divides (cond none 0 (v - suc r)) 0) 3
    → f 70 ≡ cond divides (cond none 0 ((r % 4294967296 + cond divides (cond none 0 (v - suc r)) 0 % 4294967296 + 1) / 4294967296)) 0
    → limb f 26 ≡ v % 4294967296 → limb f 28 ≡ v / 4294967296 → limb f 30 ≡ r % 4294967296 → limb f 32 ≡ r / 4294967296 → T → DivisorAnd f divides zb T
divisor_and f false none zb v r e n lv less v0 v1 v2 v3 g0 g1 g2 g3 kg vl vh rl rh rest = rest
divisor_and f true true zero v r e n lv less v0 v1 v2 v3 g0 g1 g2 g3 kg vl vh rl rh rest = absurd (zero_not_one 0 refl e)
divisor_and f true true (suc zb) v r e n lv less v0 v1 v2 v3 g0 g1 g2 g3 kg vl vh rl rh rest = ((no_digits _ _ _ _ v (is_none v n) v0 v1 v2 v3, refl), rest)
divisor_and f true false zero v r e n lv less v0 v1 v2 v3 g0 g1 g2 g3 kg vl vh rl rh rest =
    let l = less refl (is_some v n) in
    ((gap_low r v (v - suc r) (f 70) _ _ _ _ l refl kg rl g0 g1 vl, refl), ((gap_high r v (v - suc r) (f 70) _ _ _ _ l lv refl kg rh g2 g3 vh, refl), rest))
divisor_and f true false (suc zb) v r e n lv less v0 v1 v2 v3 g0 g1 g2 g3 kg vl vh rl rh rest = absurd (never_zero zb _ e refl)

-- ---- the low half of a product

no_low_digits : (a b c d w : ℕ) → w % 18446744073709551616 ≡ 0 → a ≡ w / 1 % 65536 → b ≡ w / 65536 % 65536 → c ≡ w / 4294967296 % 65536 → d ≡ w / 281474976710656 % 65536 → a + b + c + d ≡ 0
no_low_digits a b c d w z e f g h = omega arith

abbrev pub digit_sum : ℕ → ℕ
digit_sum w = digit w 0 + digit w 1 + digit w 2 + digit w 3

some_digit : (w : ℕ) → w % 18446744073709551616 ≢ 0 → 1 ≤ w / 1 % 65536 + w / 65536 % 65536 + w / 4294967296 % 65536 + w / 281474976710656 % 65536
some_digit w z = some (w / 1 % 65536) (w / 65536 % 65536) (w / 4294967296 % 65536) (w / 281474976710656 % 65536) (λ e f g h. z (none w e f g h))
  where
    none : (w : ℕ) → w / 1 % 65536 ≡ 0 → w / 65536 % 65536 ≡ 0 → w / 4294967296 % 65536 ≡ 0 → w / 281474976710656 % 65536 ≡ 0 → w % 18446744073709551616 ≡ 0
    none w e f g h = omega arith

    some : (a b c d : ℕ) → (a ≡ 0 → b ≡ 0 → c ≡ 0 → d ≡ 0 → ⊥) → 1 ≤ a + b + c + d
    some zero zero zero zero h = absurd (h refl refl refl refl)
    some (suc a) b c d h = omega arith
    some zero (suc b) c d h = omega arith
    some zero zero (suc c) d h = omega arith
    some zero zero zero (suc d) h = omega arith

less_one : (p q r s a b c d n0 n1 : ℕ) → 1 ≤ p + q + r + s → a ≡ p → b ≡ q → c ≡ r → d ≡ s → n0 ≡ (p + q + r + s - 1) % 65536 → n1 ≡ (p + q + r + s - 1) / 65536 → a + b + c + d ≡ 1 + (n0 + 65536 * n1)
less_one p q r s a b c d n0 n1 z e f g h k l = omega arith

-- what is in `n`
abbrev pub less_of : ℕ → ℕ → ℕ
less_of kn w = cond (kn == 0) 0 (digit_sum w - 1)

pub upper_le : (kn w : ℕ) → less_of kn w / 65536 ≤ 65535
upper_le kn w = by (kn == 0) (w / 1 % 65536) (w / 65536 % 65536) (w / 4294967296 % 65536) (w / 281474976710656 % 65536) (low (w / 1)) (low (w / 65536)) (low (w / 4294967296)) (low (w / 281474976710656))
  where
    low : (x : ℕ) → x % 65536 ≤ 65535
    low x = omega arith

    by : (t : Bool) (a b c d : ℕ) → a ≤ 65535 → b ≤ 65535 → c ≤ 65535 → d ≤ 65535 → cond t 0 (a + b + c + d - 1) / 65536 ≤ 65535
    by true a b c d h k l m = omega arith
    by false a b c d h k l m = omega arith

-- lines 257 and 258
pub half_and : (f : ℕ → ℕ) (high none : Bool) (kn w : ℕ) {T : Type 0} → kn ≡ cond high (cond none 0 1) 0 → (w % 18446744073709551616 == 0) ≡ none
    → f 34 ≡ digit w 0 → f 35 ≡ digit w 1 → f 36 ≡ digit w 2 → f 37 ≡ digit w 3 → f 63 ≡ less_of kn w % 65536 → f 64 ≡ less_of kn w / 65536 → T → HalfAnd f high kn T
half_and f false none kn w e n w0 w1 w2 w3 n0 n1 rest = rest
half_and f true true zero w e n w0 w1 w2 w3 n0 n1 rest = ((no_low_digits _ _ _ _ w (is_none (w % 18446744073709551616) n) w0 w1 w2 w3, refl), rest)
half_and f true true (suc kn) w e n w0 w1 w2 w3 n0 n1 rest = absurd (never_zero kn _ e refl)
half_and f true false zero w e n w0 w1 w2 w3 n0 n1 rest = absurd (zero_not_one 0 refl e)
half_and f true false (suc zero) w e n w0 w1 w2 w3 n0 n1 rest = ((less_one _ _ _ _ _ _ _ _ (f 63) (f 64) (some_digit w (is_some (w % 18446744073709551616) n)) w0 w1 w2 w3 n0 n1, refl), rest)
half_and f true false (suc (suc kn)) w e n w0 w1 w2 w3 n0 n1 rest = absurd (two_is_not_one kn e)
  where
    two_is_not_one : (k : ℕ) → suc (suc k) ≡ 1 → ⊥
    two_is_not_one k e = omega arith

-- ---- results

pub differ_le : (s t : ℕ) → s ≤ 1 → t ≤ 1 → differ s t ≤ 1
differ_le zero t h k = k
differ_le (suc s) zero h k = omega arith
differ_le (suc s) (suc t) h k = omega arith

pub either_le : (t : Bool) (p q m : ℕ) → p ≤ m → q ≤ m → cond t p q ≤ m
either_le true p q m h k = h
either_le false p q m h k = k

pub either_lt : (t : Bool) (p q m : ℕ) → p < m → q < m → cond t p q < m
either_lt true p q m h k = h
either_lt false p q m h k = k

pub turned_lt : (s q kn : ℕ) → q < 18446744073709551616 → turned s q kn < 18446744073709551616
turned_lt zero q kn h = h
turned_lt (suc s) q kn h = low (36893488147419103232 - q - kn)
  where
    low : (x : ℕ) → x % 18446744073709551616 < 18446744073709551616
    low x = omega arith

out_low : (s kn q z lq lz k : ℕ) → s ≤ 1 → kn ≤ 1 → q < 18446744073709551616 → z ≡ turned s q kn → lq ≡ q % 4294967296 → lz ≡ z % 4294967296 → k ≡ k1_of s q z kn → OutLow s kn lq lz k
out_low zero kn q z lq lz k a b l e f g h = omega arith
out_low (suc zero) zero q z lq lz k a b l e f g h = none q z lq lz k l e f g h
  where
    none : (q z lq lz k : ℕ) → q < 18446744073709551616 → z ≡ (36893488147419103232 - q - 0) % 18446744073709551616 → lq ≡ q % 4294967296 → lz ≡ z % 4294967296 → k ≡ (q % 4294967296 + z % 4294967296 + 0) / 4294967296 → lq + lz ≡ 4294967296 * k
    none q z lq lz k l e f g h = omega arith
out_low (suc zero) (suc zero) q z lq lz k a b l e f g h = one q z lq lz k l e f g h
  where
    one : (q z lq lz k : ℕ) → q < 18446744073709551616 → z ≡ (36893488147419103232 - q - 1) % 18446744073709551616 → lq ≡ q % 4294967296 → lz ≡ z % 4294967296 → k ≡ (q % 4294967296 + z % 4294967296 + 1) / 4294967296 → lq + lz + 1 ≡ 4294967296 * k
    one q z lq lz k l e f g h = omega arith
out_low (suc zero) (suc (suc kn)) q z lq lz k a b l e f g h = absurd (above_one kn b)
out_low (suc (suc s)) kn q z lq lz k a b l e f g h = absurd (above_one s a)

out_high : (s kn q z hq hz k1 k2 : ℕ) → s ≤ 1 → kn ≤ 1 → q < 18446744073709551616 → z ≡ turned s q kn → hq ≡ q / 4294967296 → hz ≡ z / 4294967296 → k1 ≡ k1_of s q z kn → k2 ≡ k2_of s q z kn → OutHigh s hq hz k1 k2
out_high zero kn q z hq hz k1 k2 a b l e f g h j = omega arith
out_high (suc zero) kn q z hq hz k1 k2 a b l e f g h j = some kn q z hq hz k1 k2 b l e f g h (j ∙ ap (λ k. (q / 4294967296 + z / 4294967296 + k) / 4294967296) (sym h))
  where
    some : (kn q z hq hz k k' : ℕ) → kn ≤ 1 → q < 18446744073709551616 → z ≡ (36893488147419103232 - q - kn) % 18446744073709551616 → hq ≡ q / 4294967296 → hz ≡ z / 4294967296 → k ≡ (q % 4294967296 + z % 4294967296 + kn) / 4294967296 → k' ≡ (q / 4294967296 + z / 4294967296 + k) / 4294967296 → hq + hz + k ≡ 4294967296 * k'
    some kn q z hq hz k k' n l e f g h j = omega arith
out_high (suc (suc s)) kn q z hq hz k1 k2 a b l e f g h j = absurd (above_one s a)

ones_low : (x z : ℕ) → z ≡ 18446744073709551615 → x ≡ z % 4294967296 → x ≡ 4294967295
ones_low x z e f = omega arith

ones_high : (x z : ℕ) → z ≡ 18446744073709551615 → x ≡ z / 4294967296 → x ≡ 4294967295
ones_high x z e f = omega arith

-- lines 262 to 265, where the result's magnitude q stands in the columns from k on
module _ (f : ℕ → ℕ) (s kn q z k : ℕ) (ls : s ≤ 1) (lk : kn ≤ 1) (lq : q < 18446744073709551616) (zl : limb f 71 ≡ z % 4294967296) (zh : limb f 73 ≡ z / 4294967296) (ql : limb f k ≡ q % 4294967296) (qh : limb f (k + 2) ≡ q / 4294967296) where
  pub result_and : (quotient remainder none : Bool) (zb : ℕ) {T : Type 0} → zb ≡ cond (cond quotient true remainder) (cond none 1 0) 0 → z ≡ cond quotient (cond none 18446744073709551615 (turned s q kn)) (turned s q kn)
      → f 75 ≡ cond quotient (cond none 0 (k1_of s q z kn)) (k1_of s q z kn) → f 76 ≡ cond quotient (cond none 0 (k2_of s q z kn)) (k2_of s q z kn) → T → ResultAnd f quotient zb s kn k T
  result_and false remainder none zb e h k1 k2 rest = ((out_low s kn q z _ _ _ ls lk lq h ql zl k1, refl), ((out_high s kn q z _ _ _ _ ls lk lq h qh zh k1 k2, refl), rest))
  result_and true remainder false zero e h k1 k2 rest = ((out_low s kn q z _ _ _ ls lk lq h ql zl k1, refl), ((out_high s kn q z _ _ _ _ ls lk lq h qh zh k1 k2, refl), rest))
  result_and true remainder false (suc zb) e h k1 k2 rest = absurd (never_zero zb _ e refl)
  result_and true remainder true zero e h k1 k2 rest = absurd (zero_not_one 0 refl e)
  result_and true remainder true (suc zb) e h k1 k2 rest = ((ones_low _ z h zl, refl), ((ones_high _ z h zh, refl), rest))

-- the limbs of the result's magnitude
pub at_result : (P : ℕ → ℕ → Type 0) (remainder high quotient : Bool) (r h x l : ℕ) → P 30 r → P 38 h → P 22 x → P 34 l → P (result_at remainder high quotient) (cond remainder r (cond high h (cond quotient x l)))
at_result P true h q r u x l a b c d = a
at_result P false true q r u x l a b c d = b
at_result P false false true r u x l a b c d = c
at_result P false false false r u x l a b c d = d

pub k1_le : (s q z kn : ℕ) → kn ≤ 1 → k1_of s q z kn ≤ 1
k1_le zero q z kn h = omega arith
k1_le (suc s) q z kn h = omega arith

pub k2_le : (s q z kn : ℕ) → kn ≤ 1 → q < 18446744073709551616 → z < 18446744073709551616 → k2_of s q z kn ≤ 1
k2_le zero q z kn h l m = omega arith
k2_le (suc s) q z kn h l m = omega arith
