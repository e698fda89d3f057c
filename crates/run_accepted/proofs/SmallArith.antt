-- The rows of Arith are numbers of the field.
use Rattle.std.proofs.Common.{ℕ, zero, suc, ◌+◌, ◌-◌, ◌*◌, ◌/◌, ◌%◌, ◌^◌, ◌<◌, ◌≤◌, Bool, true, false, cond, List, [], ◌∷◌, ◌++◌, arith}
use Rattle.std.specs.Prelude.{nat_lt, ◌==◌}
use Rattle.std.proofs.Math.Nat.{mul-le-mul, div-le_self, mod-le}
use Rattle.gold.specs.Field.{p}
use Rattle.rv_word.specs.declared.instr.OpNo.{OpNo}
use Rattle.rv_word.specs.Numbers.{op_number}
use Rattle.step_rows.specs.Words.{digit, digits, flags}
use Rattle.step_rows.specs.ArithRow.{is_in, is_high, is_quotient, is_remainder, is_division, sign_bit, first_sign, second_sign, used, size, first_size, second_size, x_of, r_of, c0, c1, c2, c3, c4, c5, c6, kn_of, n_of, zb_of, g_of, kg_of, result_sign, result_size, turned, z_of, k1_of, k2_of, unless_zero, carry_of, top_digit, row_of, numbered_row, arith_row}
use Rattle.run_accepted.proofs.Small.{AreSmall, join, flags_small, digits_small}

pub cond_most : (t : Bool) (x y m : ℕ) → x ≤ m → y ≤ m → cond t x y ≤ m
cond_most true x y m h k = h
cond_most false x y m h k = k

few_small : (v : ℕ) → v ≤ 2 ^ 34 → v < p
few_small v h = omega arith

-- ---- the magnitudes
bit_most : (n v : ℕ) → v < 2 ^ 64 → sign_bit n v ≤ 1
bit_most n v h = cond_most (nat_lt n 8) (v / 2 ^ 63) (v / 2 ^ 31 % 2) 1 (omega arith) (omega arith)

first_most : (n a : ℕ) → a < 2 ^ 64 → first_sign n a ≤ 1
first_most n a h = cond_most (is_in (1 ∷ 2 ∷ 4 ∷ 6 ∷ 9 ∷ 11 ∷ []) n) (sign_bit n a) 0 1 (bit_most n a h) (omega arith)

second_most : (n b : ℕ) → b < 2 ^ 64 → second_sign n b ≤ 1
second_most n b h = cond_most (is_in (1 ∷ 4 ∷ 6 ∷ 9 ∷ 11 ∷ []) n) (sign_bit n b) 0 1 (bit_most n b h) (omega arith)

used_most : (n s v : ℕ) → s ≤ 1 → v < 2 ^ 64 → used n s v ≤ 2 ^ 64
used_most n s v h l = cond_most (nat_lt n 8) v (v % 2 ^ 32 + 2 ^ 32 * (s * (2 ^ 32 - 1))) (2 ^ 64) (omega arith) (omega arith)

size_most : (s v : ℕ) → v ≤ 2 ^ 64 → size s v ≤ 2 ^ 64
size_most zero v h = h
size_most (suc s) v h = omega arith

x_most : (n u v : ℕ) → u ≤ 2 ^ 64 → x_of n u v ≤ 2 ^ 64
x_most n u v h = let l : u / v ≤ u = div-le_self u v in cond_most (is_division n) (u / v) u (2 ^ 64) (omega arith) h

r_most : (n u v : ℕ) → u ≤ 2 ^ 64 → r_of n u v ≤ 2 ^ 64
r_most n u v h = let l : u % v ≤ u = mod-le u v in cond_most (is_division n) (u % v) 0 (2 ^ 64) (omega arith) (omega arith)

w_most : (x v r : ℕ) → x ≤ 2 ^ 64 → v ≤ 2 ^ 64 → r ≤ 2 ^ 64 → x * v + r ≤ 2 ^ 130
w_most x v r h k l = let t : x * v ≤ 2 ^ 64 * 2 ^ 64 = mul-le-mul h k in omega arith

result_most : (n x r w : ℕ) → x ≤ 2 ^ 64 → r ≤ 2 ^ 64 → w ≤ 2 ^ 130 → result_size n x r w ≤ 2 ^ 66
result_most n x r w h k l =
    cond_most (is_remainder n) r (cond (is_high n) (w / 2 ^ 64) (cond (is_quotient n) x (w % 2 ^ 64))) (2 ^ 66) (omega arith)
    (cond_most (is_high n) (w / 2 ^ 64) (cond (is_quotient n) x (w % 2 ^ 64)) (2 ^ 66) (omega arith) (cond_most (is_quotient n) x (w % 2 ^ 64) (2 ^ 66) (omega arith) (omega arith)))

turned_most : (s v kn : ℕ) → v ≤ 2 ^ 66 → turned s v kn ≤ 2 ^ 66
turned_most zero v kn h = h
turned_most (suc s) v kn h = omega arith

z_most : (n v s m kn : ℕ) → m ≤ 2 ^ 66 → z_of n v s m kn ≤ 2 ^ 66
z_most n v s m kn h =
    let t = turned_most s m kn h in
    cond_most (is_quotient n) (cond (v == 0) (2 ^ 64 - 1) (turned s m kn)) (turned s m kn) (2 ^ 66) (cond_most (v == 0) (2 ^ 64 - 1) (turned s m kn) (2 ^ 66) (omega arith) t) t

-- ---- the carries
pair : (x y i j : ℕ) → digit x i * digit y j ≤ 65536 * 65536
pair x y i j = let h : digit x i ≤ 65536 = omega arith in let k : digit y j ≤ 65536 = omega arith in mul-le-mul h k

column : (s : ℕ) → s ≤ 2 ^ 40 → s / 2 ^ 16 ≤ 2 ^ 24
column s h = omega arith

module _ (x y r : ℕ) where
  c0_most : c0 x y r ≤ 2 ^ 24
  c0_most = let a = pair x y 0 0 in column _ (omega arith)

  c1_most : c1 x y r ≤ 2 ^ 24
  c1_most = let a = pair x y 0 1 in let b = pair x y 1 0 in let k = c0_most in column _ (omega arith)

  c2_most : c2 x y r ≤ 2 ^ 24
  c2_most = let a = pair x y 0 2 in let b = pair x y 1 1 in let d = pair x y 2 0 in let k = c1_most in column _ (omega arith)

  c3_most : c3 x y r ≤ 2 ^ 24
  c3_most = let a = pair x y 0 3 in let b = pair x y 1 2 in let d = pair x y 2 1 in let e = pair x y 3 0 in let k = c2_most in column _ (omega arith)

  c4_most : c4 x y r ≤ 2 ^ 24
  c4_most = let a = pair x y 1 3 in let b = pair x y 2 2 in let d = pair x y 3 1 in let k = c3_most in column _ (omega arith)

  c5_most : c5 x y r ≤ 2 ^ 24
  c5_most = let a = pair x y 2 3 in let b = pair x y 3 2 in let k = c4_most in column _ (omega arith)

  c6_most : c6 x y r ≤ 2 ^ 24
  c6_most = let a = pair x y 3 3 in let k = c5_most in column _ (omega arith)

high_part : (c : ℕ) → c ≤ 2 ^ 24 → c / 2 ^ 16 < p
high_part c h = omega arith

low_part : (c : ℕ) → c % 2 ^ 16 < p
low_part c = omega arith

carry_most : (s m v : ℕ) → carry_of s m v ≤ 2
carry_most zero m v = omega arith
carry_most (suc s) m v = omega arith

kn_most : (n w : ℕ) → kn_of n w ≤ 1
kn_most n w = cond_most (is_high n) (cond (w % 2 ^ 64 == 0) 0 1) 0 1 (cond_most (w % 2 ^ 64 == 0) 0 1 1 (omega arith) (omega arith)) (omega arith)

n_most : (n w : ℕ) → n_of n w ≤ 2 ^ 20
n_most n w = cond_most (kn_of n w == 0) 0 (digit w 0 + digit w 1 + digit w 2 + digit w 3 - 1) (2 ^ 20) (omega arith) (omega arith)

zb_most : (n v : ℕ) → zb_of n v ≤ 1
zb_most n v = cond_most (is_division n) (cond (v == 0) 1 0) 0 1 (cond_most (v == 0) 1 0 1 (omega arith) (omega arith)) (omega arith)

kg_most : (n v r : ℕ) → kg_of n v r ≤ 2
kg_most n v r = cond_most (is_division n) (cond (v == 0) 0 ((r % 2 ^ 32 + g_of n v r % 2 ^ 32 + 1) / 2 ^ 32)) 0 2 (cond_most (v == 0) 0 ((r % 2 ^ 32 + g_of n v r % 2 ^ 32 + 1) / 2 ^ 32) 2 (omega arith) (omega arith)) (omega arith)

k1_most : (s m z kn : ℕ) → kn ≤ 1 → k1_of s m z kn ≤ 2
k1_most zero m z kn h = omega arith
k1_most (suc s) m z kn h = omega arith

k2_most : (s m z kn : ℕ) → m ≤ 2 ^ 66 → z ≤ 2 ^ 66 → kn ≤ 1 → k2_of s m z kn ≤ 2 ^ 10
k2_most zero m z kn h k l = omega arith
k2_most (suc s) m z kn h k l = let t = k1_most (suc s) m z kn l in omega arith

unless_most : (n v k m : ℕ) → k ≤ m → unless_zero n v k ≤ m
unless_most n v k m h = cond_most (is_quotient n) (cond (v == 0) 0 k) k m (cond_most (v == 0) 0 k m (omega arith) h) h

-- ---- the row
module _ (n a b : ℕ) (ha : a < 2 ^ 64) (hb : b < 2 ^ 64) (s t u v x r w z : ℕ) (hm : result_size n x r w ≤ 2 ^ 66) (hz : z ≤ 2 ^ 66) where
  abbrev m : ℕ
  m = result_size n x r w

  abbrev e : ℕ
  e = result_sign n s t

  abbrev ends : List ℕ
  ends = unless_zero n v (k1_of e m z (kn_of n w)) ∷ unless_zero n v (k2_of e m z (kn_of n w)) ∷ z / 2 ^ 31 % 2 ∷ z / 2 ^ 16 % 2 ^ 15 ∷ []

  ends_small : AreSmall ends
  ends_small =
      let kn = kn_most n w in
      let k1 = unless_most n v _ 2 (k1_most e m z (kn_of n w) kn) in
      let k2 = unless_most n v _ (2 ^ 10) (k2_most e m z (kn_of n w) hm hz kn) in
      (few_small _ (omega arith), (few_small _ (omega arith), (omega arith, (omega arith, tt))))

  abbrev tests : List ℕ
  tests = digits (g_of n v r) 0 4 ++ (kg_of n v r ∷ digits z 0 4 ++ ends)

  tests_small : AreSmall tests
  tests_small =
      let kg = kg_most n v r in
      join (digits (g_of n v r) 0 4) (kg_of n v r ∷ digits z 0 4 ++ ends) (digits_small (g_of n v r) 0 4) (omega arith, join (digits z 0 4) ends (digits_small z 0 4) ends_small)

  abbrev bits : List ℕ
  bits = sign_bit n a ∷ top_digit n a % 2 ^ 15 ∷ sign_bit n b ∷ top_digit n b % 2 ^ 15 ∷ carry_of s u (used n s a) ∷ carry_of t v (used n t b) ∷ kn_of n w ∷ n_of n w % 2 ^ 16 ∷ n_of n w / 2 ^ 16 ∷ zb_of n v ∷ []

  bits_small : AreSmall bits
  bits_small =
      let h = bit_most n a ha in
      let k = bit_most n b hb in
      let l = carry_most s u (used n s a) in
      let o = carry_most t v (used n t b) in
      let q = kn_most n w in
      let g = n_most n w in
      let y = zb_most n v in
      (omega arith, (omega arith, (omega arith, (omega arith, (omega arith, (omega arith, (omega arith, (omega arith, (omega arith, (omega arith, tt))))))))))

  abbrev carries : List ℕ
  carries =
      c0 x v r % 2 ^ 16 ∷ c1 x v r % 2 ^ 16 ∷ c2 x v r % 2 ^ 16 ∷ c3 x v r % 2 ^ 16 ∷ c4 x v r % 2 ^ 16 ∷ c5 x v r % 2 ^ 16 ∷ c6 x v r % 2 ^ 16
      ∷ c0 x v r / 2 ^ 16 ∷ c1 x v r / 2 ^ 16 ∷ c2 x v r / 2 ^ 16 ∷ c3 x v r / 2 ^ 16 ∷ c4 x v r / 2 ^ 16 ∷ c5 x v r / 2 ^ 16 ∷ c6 x v r / 2 ^ 16 ∷ []

  carries_small : AreSmall carries
  carries_small = (
    low_part _,
    (
      low_part _,
      (
        low_part _,
        (
          low_part _,
          (
            low_part _,
            (
              low_part _,
              (
                low_part _,
                (high_part _ (c0_most x v r), (high_part _ (c1_most x v r), (high_part _ (c2_most x v r), (high_part _ (c3_most x v r), (high_part _ (c4_most x v r), (high_part _ (c5_most x v r), (high_part _ (c6_most x v r), tt))))))),
              ),
            ),
          ),
        ),
      ),
    ),
  )

  abbrev behind : List ℕ
  behind = carries ++ (bits ++ tests)

  behind_small : AreSmall behind
  behind_small = join carries (bits ++ tests) carries_small (join bits tests bits_small tests_small)

  abbrev numbers : List ℕ
  numbers = digits v 0 4 ++ (digits r 0 4 ++ (digits w 0 8 ++ behind))

  numbers_small : AreSmall numbers
  numbers_small = join (digits v 0 4) (digits r 0 4 ++ (digits w 0 8 ++ behind)) (digits_small v 0 4) (join (digits r 0 4) (digits w 0 8 ++ behind) (digits_small r 0 4) (join (digits w 0 8) behind (digits_small w 0 8) behind_small))

  abbrev operands : List ℕ
  operands = digits a 0 4 ++ (digits b 0 4 ++ (digits x 0 4 ++ numbers))

  operands_small : AreSmall operands
  operands_small = join (digits a 0 4) (digits b 0 4 ++ (digits x 0 4 ++ numbers)) (digits_small a 0 4) (join (digits b 0 4) (digits x 0 4 ++ numbers) (digits_small b 0 4) (join (digits x 0 4) numbers (digits_small x 0 4) numbers_small))

  row_small : AreSmall (row_of n a b s t u v x r w z)
  row_small = (omega arith, join (flags n 0 13) operands (flags_small n 0 13) operands_small)

numbered_small : (n a b : ℕ) → a < 2 ^ 64 → b < 2 ^ 64 → AreSmall (numbered_row n a b)
numbered_small n a b ha hb =
    let hu : first_size n a ≤ 2 ^ 64 = size_most (first_sign n a) (used n (first_sign n a) a) (used_most n (first_sign n a) a (first_most n a ha) ha) in
    let hv : second_size n b ≤ 2 ^ 64 = size_most (second_sign n b) (used n (second_sign n b) b) (used_most n (second_sign n b) b (second_most n b hb) hb) in
    let hx = x_most n (first_size n a) (second_size n b) hu in
    let hr = r_most n (first_size n a) (second_size n b) hu in
    let hw = w_most (x_of n (first_size n a) (second_size n b)) (second_size n b) (r_of n (first_size n a) (second_size n b)) hx hv hr in
    let hm = result_most n (x_of n (first_size n a) (second_size n b)) (r_of n (first_size n a) (second_size n b)) (x_of n (first_size n a) (second_size n b) * second_size n b + r_of n (first_size n a) (second_size n b)) hx hr hw in
    row_small n a b ha hb (first_sign n a) (second_sign n b) (first_size n a) (second_size n b) (x_of n (first_size n a) (second_size n b)) (r_of n (first_size n a) (second_size n b)) (x_of n (first_size n a) (second_size n b) * second_size n b + r_of n (first_size n a) (second_size n b)) _ hm
    (z_most n (second_size n b) _ _ _ hm)

pub arith_small : (o : OpNo) (a b : ℕ) → a < 2 ^ 64 → b < 2 ^ 64 → AreSmall (arith_row o a b)
arith_small o a b ha hb = numbered_small (op_number o - 17) a b ha hb
