-- The row that a product, a quotient or a remainder has in Arith (docs/WITNESS.md, "Values").
-- MUL, MULH, MULHSU, MULHU, DIV, DIVU, REM, REMU, MULW, DIVW, DIVUW, REMW, REMUW have the numbers n from 0 to 12.
use Rattle.std.specs.Prelude.{ℕ, zero, suc, ◌+◌, ◌-◌, ◌*◌, ◌/◌, ◌%◌, ◌^◌, ◌==◌, nat_lt, Bool, true, false, cond, List, [], ◌∷◌, ◌++◌}
use Rattle.rv_word.specs.declared.instr.OpNo.{OpNo}
use Rattle.rv_word.specs.Numbers.{op_number}
use Rattle.step_rows.specs.Words.{digit, digits, flags}

-- whether n is one of these
abbrev pub is_in : List ℕ → ℕ → Bool
is_in [] n = false
is_in (k ∷ ks) n = cond (n == k) true (is_in ks n)

-- those that give the high half of a product, a quotient, a remainder
abbrev pub is_high : ℕ → Bool
is_high n = is_in (1 ∷ 2 ∷ 3 ∷ []) n

abbrev pub is_quotient : ℕ → Bool
is_quotient n = is_in (4 ∷ 5 ∷ 9 ∷ 10 ∷ []) n

abbrev pub is_remainder : ℕ → Bool
is_remainder n = is_in (6 ∷ 7 ∷ 11 ∷ 12 ∷ []) n

abbrev pub is_division : ℕ → Bool
is_division n = cond (is_quotient n) true (is_remainder n)

-- the sign bit of an operand, and whether the operation counts it
abbrev pub sign_bit : ℕ → ℕ → ℕ
sign_bit n v = cond (nat_lt n 8) (v / 2 ^ 63) (v / 2 ^ 31 % 2)

abbrev pub first_sign : ℕ → ℕ → ℕ
first_sign n a = cond (is_in (1 ∷ 2 ∷ 4 ∷ 6 ∷ 9 ∷ 11 ∷ []) n) (sign_bit n a) 0

abbrev pub second_sign : ℕ → ℕ → ℕ
second_sign n b = cond (is_in (1 ∷ 4 ∷ 6 ∷ 9 ∷ 11 ∷ []) n) (sign_bit n b) 0

-- an operand as it is used: on 32 bits, extended by its sign
abbrev pub used : ℕ → ℕ → ℕ → ℕ
used n s v = cond (nat_lt n 8) v (v % 2 ^ 32 + 2 ^ 32 * (s * (2 ^ 32 - 1)))

-- v, or what makes 2^64 with it
abbrev pub size : ℕ → ℕ → ℕ
size zero v = v
size (suc s) v = 2 ^ 64 - v

abbrev pub first_size : ℕ → ℕ → ℕ
first_size n a = size (first_sign n a) (used n (first_sign n a) a)

abbrev pub second_size : ℕ → ℕ → ℕ
second_size n b = size (second_sign n b) (used n (second_sign n b) b)

-- the quotient and the remainder, 0 and the first where the second is 0; of a product the first, and 0
abbrev pub x_of : ℕ → ℕ → ℕ → ℕ
x_of n u v = cond (is_division n) (u / v) u

abbrev pub r_of : ℕ → ℕ → ℕ → ℕ
r_of n u v = cond (is_division n) (u % v) 0

-- the carries of the columns of x * y + r
abbrev pub c0 : ℕ → ℕ → ℕ → ℕ
c0 x y r = (digit x 0 * digit y 0 + digit r 0) / 2 ^ 16

abbrev pub c1 : ℕ → ℕ → ℕ → ℕ
c1 x y r = (digit x 0 * digit y 1 + digit x 1 * digit y 0 + digit r 1 + c0 x y r) / 2 ^ 16

abbrev pub c2 : ℕ → ℕ → ℕ → ℕ
c2 x y r = (digit x 0 * digit y 2 + digit x 1 * digit y 1 + digit x 2 * digit y 0 + digit r 2 + c1 x y r) / 2 ^ 16

abbrev pub c3 : ℕ → ℕ → ℕ → ℕ
c3 x y r = (digit x 0 * digit y 3 + digit x 1 * digit y 2 + digit x 2 * digit y 1 + digit x 3 * digit y 0 + digit r 3 + c2 x y r) / 2 ^ 16

abbrev pub c4 : ℕ → ℕ → ℕ → ℕ
c4 x y r = (digit x 1 * digit y 3 + digit x 2 * digit y 2 + digit x 3 * digit y 1 + c3 x y r) / 2 ^ 16

abbrev pub c5 : ℕ → ℕ → ℕ → ℕ
c5 x y r = (digit x 2 * digit y 3 + digit x 3 * digit y 2 + c4 x y r) / 2 ^ 16

abbrev pub c6 : ℕ → ℕ → ℕ → ℕ
c6 x y r = (digit x 3 * digit y 3 + c5 x y r) / 2 ^ 16

-- where the low half of a product isn't 0
abbrev pub kn_of : ℕ → ℕ → ℕ
kn_of n w = cond (is_high n) (cond (w % 2 ^ 64 == 0) 0 1) 0

-- the sum of the low digits less 1, and how far the remainder is below the divisor
abbrev pub n_of : ℕ → ℕ → ℕ
n_of n w = cond (kn_of n w == 0) 0 (digit w 0 + digit w 1 + digit w 2 + digit w 3 - 1)

abbrev pub zb_of : ℕ → ℕ → ℕ
zb_of n v = cond (is_division n) (cond (v == 0) 1 0) 0

abbrev pub g_of : ℕ → ℕ → ℕ → ℕ
g_of n v r = cond (is_division n) (cond (v == 0) 0 (v - suc r)) 0

abbrev pub kg_of : ℕ → ℕ → ℕ → ℕ
kg_of n v r = cond (is_division n) (cond (v == 0) 0 ((r % 2 ^ 32 + g_of n v r % 2 ^ 32 + 1) / 2 ^ 32)) 0

-- of two signs, whether they differ
abbrev pub differ : ℕ → ℕ → ℕ
differ zero t = t
differ (suc s) zero = 1
differ (suc s) (suc t) = 0

-- the sign of the result, and its magnitude, where x, r and w are as above
abbrev pub result_sign : ℕ → ℕ → ℕ → ℕ
result_sign n s t = cond (is_remainder n) s (cond (is_high n) (differ s t) (cond (is_quotient n) (differ s t) 0))

abbrev pub result_size : ℕ → ℕ → ℕ → ℕ → ℕ
result_size n x r w = cond (is_remainder n) r (cond (is_high n) (w / 2 ^ 64) (cond (is_quotient n) x (w % 2 ^ 64)))

-- the result in 64 bits
abbrev pub turned : ℕ → ℕ → ℕ → ℕ
turned zero v kn = v
turned (suc s) v kn = (2 ^ 65 - v - kn) % 2 ^ 64

abbrev pub z_of : ℕ → ℕ → ℕ → ℕ → ℕ → ℕ
z_of n v s size kn = cond (is_quotient n) (cond (v == 0) (2 ^ 64 - 1) (turned s size kn)) (turned s size kn)

-- its carries, where it is turned
abbrev pub k1_of : ℕ → ℕ → ℕ → ℕ → ℕ
k1_of zero size z kn = 0
k1_of (suc s) size z kn = (size % 2 ^ 32 + z % 2 ^ 32 + kn) / 2 ^ 32

abbrev pub k2_of : ℕ → ℕ → ℕ → ℕ → ℕ
k2_of zero size z kn = 0
k2_of (suc s) size z kn = (size / 2 ^ 32 + z / 2 ^ 32 + k1_of (suc s) size z kn) / 2 ^ 32

-- no carries where a quotient by zero is made
abbrev pub unless_zero : ℕ → ℕ → ℕ → ℕ
unless_zero n v k = cond (is_quotient n) (cond (v == 0) 0 k) k

-- the carry of an operand that is turned
abbrev pub carry_of : ℕ → ℕ → ℕ → ℕ
carry_of zero m v = 0
carry_of (suc s) m v = (m % 2 ^ 32 + v % 2 ^ 32) / 2 ^ 32

-- the digit of an operand that has its sign
abbrev pub top_digit : ℕ → ℕ → ℕ
top_digit n v = cond (nat_lt n 8) (digit v 3) (digit v 1)

-- the row, where the operands' magnitudes are u and v with the signs s and t, and x * v + r is w
abbrev pub row_of : ℕ → ℕ → ℕ → ℕ → ℕ → ℕ → ℕ → ℕ → ℕ → ℕ → ℕ → List ℕ
row_of n a b s t u v x r w z =
    1 ∷ flags n 0 13 ++ (digits a 0 4 ++ (digits b 0 4 ++ (digits x 0 4 ++ (digits v 0 4 ++ (digits r 0 4 ++ (digits w 0 8 ++ (
    c0 x v r % 2 ^ 16 ∷ c1 x v r % 2 ^ 16 ∷ c2 x v r % 2 ^ 16 ∷ c3 x v r % 2 ^ 16 ∷ c4 x v r % 2 ^ 16 ∷ c5 x v r % 2 ^ 16 ∷ c6 x v r % 2 ^ 16
    ∷ c0 x v r / 2 ^ 16 ∷ c1 x v r / 2 ^ 16 ∷ c2 x v r / 2 ^ 16 ∷ c3 x v r / 2 ^ 16 ∷ c4 x v r / 2 ^ 16 ∷ c5 x v r / 2 ^ 16 ∷ c6 x v r / 2 ^ 16
    ∷ sign_bit n a ∷ top_digit n a % 2 ^ 15 ∷ sign_bit n b ∷ top_digit n b % 2 ^ 15 ∷ carry_of s u (used n s a) ∷ carry_of t v (used n t b)
    ∷ kn_of n w ∷ n_of n w % 2 ^ 16 ∷ n_of n w / 2 ^ 16 ∷ zb_of n v ∷ digits (g_of n v r) 0 4 ++ (kg_of n v r ∷ digits z 0 4 ++ (
    unless_zero n v (k1_of (result_sign n s t) (result_size n x r w) z (kn_of n w)) ∷ unless_zero n v (k2_of (result_sign n s t) (result_size n x r w) z (kn_of n w))
    ∷ z / 2 ^ 31 % 2 ∷ z / 2 ^ 16 % 2 ^ 15 ∷ [])))))))))

-- the row of the operation n on a and b
abbrev pub numbered_row : ℕ → ℕ → ℕ → List ℕ
numbered_row n a b =
    let s = first_sign n a in
    let t = second_sign n b in
    let u = first_size n a in
    let v = second_size n b in
    let x = x_of n u v in
    let r = r_of n u v in
    let w = x * v + r in
    row_of n a b s t u v x r w (z_of n v (result_sign n s t) (result_size n x r w) (kn_of n w))

-- the row of one of the thirteen
abbrev pub arith_row : OpNo → ℕ → ℕ → List ℕ
arith_row o a b = numbered_row (op_number o - 17) a b
