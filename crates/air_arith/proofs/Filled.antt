-- The row of each operation meets the lines of Arith.
use Rattle.std.proofs.Common.{ℕ, suc, ◌+◌, ◌*◌, ◌/◌, ◌%◌, ◌^◌, ◌<◌, ◌≤◌, ◌≡◌, ◌≢◌, ◌==◌, Bool, true, false, cond, ltb, List, [], ◌∷◌, refl, sym, ap, ◌∙◌, mod-lt, pos_of_ne-zero, lit<, arith}
use Rattle.std.specs.Prelude.{nat_lt, slice_index}
use Rattle.std.proofs.lemmas.Bool.{true≢false}
use Rattle.std.proofs.lemmas.Bool.Decides.{nat_tests}
use Rattle.pil_ast.specs.Term.{Namespace}
use Rattle.pil_ast.specs.Columns.{Columns}
use Rattle.pil_ast.specs.Holds.{sent}
use Rattle.pil_ast.specs.Value.{around}
use Rattle.pil_exact.proofs.Row.{is, Meets, AllMeet, row_at, all_hold, meet_both}
use Rattle.pil_exact.proofs.Flags.{flags, flag_at}
use Rattle.pil_exact.proofs.Follows.{all_said}
use Rattle.machine_text.specs.Arith.{space, items, sel}
use Rattle.step_rows.specs.Words.{one_if}
use Rattle.step_rows.specs.ArithRow.{numbered_row, is_high, is_quotient, is_remainder, is_division, first_sign, second_sign, used, first_size, second_size, x_of, r_of, kn_of, zb_of, g_of, result_sign, result_size, z_of, unless_zero}
use Rattle.air_arith.specs.Laws as L
use Rattle.air_arith.specs.Laws.{ArithPadding, HasArith}
use Rattle.air_arith.proofs.Numbered.{IsNumberedRow, CompleteFor}
use Rattle.air_arith.proofs.Known.{small}
use Rattle.air_arith.proofs.Numbers.{limb}
use Rattle.air_arith.proofs.Carries.{fits}
use Rattle.air_arith.proofs.Honest.{at, columns, bounds_hold, x_small, rest_small, low_limb, high_limb}
use Rattle.air_arith.proofs.Shown.{first_signed, second_signed, sign_fact, known, others, Shown, step, two, summed, result_at, HalfAnd, DivisorAnd, ResultAnd, ColumnsAnd}
use Rattle.air_arith.proofs.Owed.{top_bit, top_bit_le, counted_le, counted_is, top_split, top_line, size_lt, size_low, size_high, carry_le, whole_of, no_digits, no_high, divisor_and, upper_le, half_and, differ_le, either_le, either_lt, turned_lt, result_and, at_result, k1_le, k2_le}

pub arith_padding : ArithPadding
arith_padding ns c i r has z =
    all_hold ns c 12 i r space has.stands items refl (all_said ns c has.tables (row_at items ns c 12 i r ((0, is 0) ∷ []) has.in_field (z, tt)) sel items small tt)

flag_same : (n j : ℕ) → one_if (n == j) ≡ flag_at (suc n) (suc j)
flag_same n j = grind (arith, nat_tests)

digit_le : (x v : ℕ) → x ≡ v % 65536 → x ≤ 65535
digit_le x v e = omega arith

same_le : (x y m : ℕ) → x ≡ y → y ≤ m → x ≤ m
same_le x y m e h = omega arith

sign_met : (signed : Bool) (x bit : ℕ) → x ≡ bit → bit ≤ 1 → Meets x (sign_fact signed (cond signed bit 0))
sign_met true x bit e l = e
sign_met false x bit e l = same_le x bit 1 e l

-- less than two, or nothing
below_two : (signed : Bool) (bit : ℕ) → bit ≤ 1 → cond signed bit 0 < two signed
below_two true bit l = omega arith
below_two false bit l = omega arith

one_at_most : (t : Bool) → cond t 0 1 ≤ 1
one_at_most true = omega arith
one_at_most false = omega arith

zero_at_most : (t : Bool) → cond t 1 0 ≤ 1
zero_at_most true = omega arith
zero_at_most false = omega arith

unless_le : (n v k : ℕ) → k ≤ 1 → unless_zero n v k ≤ 1
unless_le n v k h = either_le (is_quotient n) _ k 1 (either_le (v == 0) 0 k 1 (zero_at_most false) h) h

carried : (r g : ℕ) → (r % 4294967296 + g % 4294967296 + 1) / 4294967296 ≤ 1
carried r g = omega arith

last_digit : (x s r v : ℕ) → x ≡ v / 65536 % 65536 → s ≡ v / 2147483648 % 2 → r ≡ v / 65536 % 32768 → x ≡ 32768 * s + r
last_digit x s r v e f g = omega arith

same_lt : (x y m : ℕ) → x ≡ y → y < m → x < m
same_lt x y m e h = omega arith

upper_lt : (w : ℕ) → w < 340282366920938463463374607431768211456 → w / 18446744073709551616 < 18446744073709551616
upper_lt w h = omega arith

lower_lt : (w : ℕ) → w % 18446744073709551616 < 18446744073709551616
lower_lt w = omega arith

upper_low : (x y w : ℕ) → x ≡ w / 18446744073709551616 % 65536 → y ≡ w / 1208925819614629174706176 % 65536 → x + 65536 * y ≡ w / 18446744073709551616 % 4294967296
upper_low x y w e f = omega arith

upper_high : (x y w : ℕ) → w < 340282366920938463463374607431768211456 → x ≡ w / 79228162514264337593543950336 % 65536 → y ≡ w / 5192296858534827628530496329220096 % 65536 → x + 65536 * y ≡ w / 18446744073709551616 / 4294967296
upper_high x y w h e f = omega arith

lower_low : (x y w : ℕ) → x ≡ w / 1 % 65536 → y ≡ w / 65536 % 65536 → x + 65536 * y ≡ w % 18446744073709551616 % 4294967296
lower_low x y w e f = omega arith

lower_high : (x y w : ℕ) → x ≡ w / 4294967296 % 65536 → y ≡ w / 281474976710656 % 65536 → x + 65536 * y ≡ w % 18446744073709551616 / 4294967296
lower_high x y w e f = omega arith

remainder_lt : (divides : Bool) (u v : ℕ) → divides ≡ true → v ≢ 0 → cond divides (u % v) 0 < v
remainder_lt true u v e z = mod-lt u {m = v} (pos_of_ne-zero z)
remainder_lt false u v e z = pos_of_ne-zero z

either_is : (divides : Bool) (p q m : ℕ) → (divides ≡ true → p ≡ m) → (divides ≡ false → q ≡ m) → cond divides p q ≡ m
either_is true p q m h k = h refl
either_is false p q m h k = k refl

-- a product has its first factor, and no remainder
no_quotient : (divides : Bool) (u v : ℕ) → divides ≡ false → cond divides (u / v) u ≡ u
no_quotient false u v e = refl
no_quotient true u v e = absurd (true≢false e)

no_rest : (divides : Bool) (u v : ℕ) → divides ≡ false → cond divides (u % v) 0 ≡ 0
no_rest false u v e = refl
no_rest true u v e = absurd (true≢false e)

module _ (ns : List Namespace) (c : Columns) (i r n a b : ℕ) (la : a < 18446744073709551616) (lb : b < 18446744073709551616) (given : IsNumberedRow c i r n a b) where
  abbrev f : ℕ → ℕ
  f k = c.at 12 i k r

  abbrev s : ℕ
  s = first_sign n a

  abbrev t : ℕ
  t = second_sign n b

  abbrev u : ℕ
  u = first_size n a

  abbrev v : ℕ
  v = second_size n b

  abbrev x : ℕ
  x = x_of n u v

  abbrev rest : ℕ
  rest = r_of n u v

  abbrev w : ℕ
  w = x * v + rest

  abbrev kn : ℕ
  kn = kn_of n w

  abbrev zb : ℕ
  zb = zb_of n v

  abbrev sign : ℕ
  sign = result_sign n s t

  abbrev q : ℕ
  q = result_size n x rest w

  abbrev z : ℕ
  z = z_of n v sign q kn

  -- what is small
  s_le : s ≤ 1
  s_le = counted_le (first_signed n) (nat_lt n 8) a la

  t_le : t ≤ 1
  t_le = counted_le (second_signed n) (nat_lt n 8) b lb

  hu : u < 18446744073709551616
  hu = size_lt (nat_lt n 8) s a s_le la (counted_is (first_signed n) (nat_lt n 8) a)

  hv : v < 18446744073709551616
  hv = size_lt (nat_lt n 8) t b t_le lb (counted_is (second_signed n) (nat_lt n 8) b)

  hx : x < 18446744073709551616
  hx = x_small c i r n a b given hu hv

  hr : rest < 18446744073709551616
  hr = rest_small c i r n a b given hu hv

  hw : w < 340282366920938463463374607431768211456
  hw = fits x v rest hx hv hr

  divided : is_division n ≡ true → w ≡ u
  divided e = whole_of (is_division n) u v e

  hd : is_division n ≡ true → w < 18446744073709551616
  hd e = same_lt w u _ (divided e) hu

  kn_le : kn ≤ 1
  kn_le = either_le (is_high n) _ 0 1 (one_at_most (w % 2 ^ 64 == 0)) (zero_at_most false)

  sign_le : sign ≤ 1
  sign_le = either_le (is_remainder n) s _ 1 s_le (either_le (is_high n) _ _ 1 (differ_le s t s_le t_le) (either_le (is_quotient n) _ 0 1 (differ_le s t s_le t_le) (zero_at_most false)))

  hq : q < 18446744073709551616
  hq = either_lt (is_remainder n) rest _ _ hr (either_lt (is_high n) _ _ _ (upper_lt w hw) (either_lt (is_quotient n) x _ _ hx (lower_lt w)))

  hz : z < 18446744073709551616
  hz = either_lt (is_quotient n) _ _ _ (either_lt (v == 0) _ _ _ (lit< tt) (turned_lt sign q kn hq)) (turned_lt sign q kn hq)

  -- the columns, and what pairs of them are
  g : (j : ℕ) → ltb j 79 ≡ true → f j ≡ slice_index (numbered_row n a b) j
  g = at c i r n a b given hu hv

  a_low : limb f 14 ≡ a % 4294967296
  a_low = low_limb (f 14) (f 15) a (g 14 refl) (g 15 refl)

  a_high : limb f 16 ≡ a / 4294967296
  a_high = high_limb (f 16) (f 17) a la (g 16 refl) (g 17 refl)

  b_low : limb f 18 ≡ b % 4294967296
  b_low = low_limb (f 18) (f 19) b (g 18 refl) (g 19 refl)

  b_high : limb f 20 ≡ b / 4294967296
  b_high = high_limb (f 20) (f 21) b lb (g 20 refl) (g 21 refl)

  x_low : limb f 22 ≡ x % 4294967296
  x_low = low_limb (f 22) (f 23) x (g 22 refl) (g 23 refl)

  x_high : limb f 24 ≡ x / 4294967296
  x_high = high_limb (f 24) (f 25) x hx (g 24 refl) (g 25 refl)

  v_low : limb f 26 ≡ v % 4294967296
  v_low = low_limb (f 26) (f 27) v (g 26 refl) (g 27 refl)

  v_high : limb f 28 ≡ v / 4294967296
  v_high = high_limb (f 28) (f 29) v hv (g 28 refl) (g 29 refl)

  r_low : limb f 30 ≡ rest % 4294967296
  r_low = low_limb (f 30) (f 31) rest (g 30 refl) (g 31 refl)

  r_high : limb f 32 ≡ rest / 4294967296
  r_high = high_limb (f 32) (f 33) rest hr (g 32 refl) (g 33 refl)

  z_low : limb f 71 ≡ z % 4294967296
  z_low = low_limb (f 71) (f 72) z (g 71 refl) (g 72 refl)

  z_high : limb f 73 ≡ z / 4294967296
  z_high = high_limb (f 73) (f 74) z hz (g 73 refl) (g 74 refl)

  -- the first operand's magnitude
  m_low : cond (is_division n) (limb f 34) (limb f 22) ≡ u % 4294967296
  m_low = either_is (is_division n) _ _ _ (λ e. low_limb (f 34) (f 35) w (g 34 refl) (g 35 refl) ∙ ap (λ k. k % 4294967296) (divided e)) (λ e. x_low ∙ ap (λ k. k % 4294967296) (no_quotient (is_division n) u v e))

  m_high : cond (is_division n) (limb f 36) (limb f 24) ≡ u / 4294967296
  m_high = either_is (is_division n) _ _ _ (λ e. high_limb (f 36) (f 37) w (hd e) (g 36 refl) (g 37 refl) ∙ ap (λ k. k / 4294967296) (divided e)) (λ e. x_high ∙ ap (λ k. k / 4294967296) (no_quotient (is_division n) u v e))

  -- the result's
  q_low : limb f (result_at (is_remainder n) (is_high n) (is_quotient n)) ≡ q % 4294967296
  q_low = at_result (λ k m. limb f k ≡ m % 4294967296) (is_remainder n) (is_high n) (is_quotient n) rest (w / 2 ^ 64) x (w % 2 ^ 64) r_low (upper_low (f 38) (f 39) w (g 38 refl) (g 39 refl)) x_low (lower_low (f 34) (f 35) w (g 34 refl) (g 35 refl))

  q_high : limb f (result_at (is_remainder n) (is_high n) (is_quotient n) + 2) ≡ q / 4294967296
  q_high = at_result (λ k m. limb f (k + 2) ≡ m / 4294967296) (is_remainder n) (is_high n) (is_quotient n) rest (w / 2 ^ 64) x (w % 2 ^ 64) r_high (upper_high (f 40) (f 41) w hw (g 40 refl) (g 41 refl)) x_high (lower_high (f 36) (f 37) w (g 36 refl) (g 37 refl))

  -- what the lines say
  first_top : cond (nat_lt n 8) (f 17) (f 15) ≡ 32768 * top_bit (nat_lt n 8) a + f 57
  first_top = (λ j. cond (nat_lt n 8) (g 17 refl j) (g 15 refl j)) ∙ top_split (nat_lt n 8) a la ∙ ap (λ k. 32768 * top_bit (nat_lt n 8) a + k) (sym (g 57 refl))

  second_top : cond (nat_lt n 8) (f 21) (f 19) ≡ 32768 * top_bit (nat_lt n 8) b + f 59
  second_top = (λ j. cond (nat_lt n 8) (g 21 refl j) (g 19 refl j)) ∙ top_split (nat_lt n 8) b lb ∙ ap (λ k. 32768 * top_bit (nat_lt n 8) b + k) (sym (g 59 refl))

  no_others : cond (is_division n) (summed f 38) (summed f 30) ≡ 0
  no_others = either_is (is_division n) _ _ 0 (λ e. no_high _ _ _ _ w (hd e) (g 38 refl) (g 39 refl) (g 40 refl) (g 41 refl)) (λ e. no_digits _ _ _ _ rest (no_rest (is_division n) u v e) (g 30 refl) (g 31 refl) (g 32 refl) (g 33 refl))

  result_shown : {T : Type 0} → T → ResultAnd f (is_quotient n) zb sign kn (result_at (is_remainder n) (is_high n) (is_quotient n)) T
  result_shown h = result_and f sign kn q z (result_at (is_remainder n) (is_high n) (is_quotient n)) sign_le kn_le hq z_low z_high q_low q_high (is_quotient n) (is_remainder n) (v == 0) zb refl refl (g 75 refl) (g 76 refl) h

  divisor_shown : {T : Type 0} → T → DivisorAnd f (is_division n) zb T
  divisor_shown h =
      divisor_and f (is_division n) (v == 0) zb v rest refl refl hv (remainder_lt (is_division n) u v) (g 26 refl) (g 27 refl) (g 28 refl) (g 29 refl) (g 66 refl) (g 67 refl) (g 68 refl) (g 69 refl) (g 70 refl) v_low v_high r_low r_high h

  half_shown : {T : Type 0} → T → HalfAnd f (is_high n) kn T
  half_shown h = half_and f (is_high n) (w % 2 ^ 64 == 0) kn w refl refl (g 34 refl) (g 35 refl) (g 36 refl) (g 37 refl) (g 63 refl) (g 64 refl) h

  columns_shown : {T : Type 0} → T → ColumnsAnd f T
  columns_shown h =
      let k = columns c i r n a b given hu hv in
      ((k.e0, refl), ((k.e1, refl), ((k.e2, refl), ((k.e3, refl), ((k.e4, refl), ((k.e5, refl), ((k.e6, refl), ((k.e7, refl), h))))))))

  shown : Shown f n s t kn zb
  shown = (
    (top_line (first_signed n) (top_bit (nat_lt n 8) a) _ _ _ (top_bit_le (nat_lt n 8) a la) (g 56 refl) first_top, refl),
    (
      (top_line (second_signed n) (top_bit (nat_lt n 8) b) _ _ _ (top_bit_le (nat_lt n 8) b lb) (g 58 refl) second_top, refl),
      (
        (size_low (nat_lt n 8) s a _ _ _ s_le la m_low a_low (g 60 refl), refl),
        (
          (size_high (nat_lt n 8) s a _ _ _ s_le la m_high (λ j. cond (nat_lt n 8) (a_high j) (s * 4294967295)) (g 60 refl), refl),
          (
            (size_low (nat_lt n 8) t b _ _ _ t_le lb v_low b_low (g 61 refl), refl),
            (
              (size_high (nat_lt n 8) t b _ _ _ t_le lb v_high (λ j. cond (nat_lt n 8) (b_high j) (t * 4294967295)) (g 61 refl), refl),
              (
                (no_others, refl),
                columns_shown (half_shown (divisor_shown (result_shown ((last_digit (f 72) (f 77) (f 78) z (g 72 refl) (g 77 refl) (g 78 refl), refl), tt)))),
              ),
            ),
          ),
        ),
      ),
    ),
  )

  -- what is known of the columns
  flags_met : AllMeet (flags (suc n) 1 13) f
  flags_met = (g 1 refl ∙ flag_same n 0, (g 2 refl ∙ flag_same n 1, (g 3 refl ∙ flag_same n 2, (g 4 refl ∙ flag_same n 3, (g 5 refl ∙ flag_same n 4, (g 6 refl ∙ flag_same n 5, (g 7 refl ∙ flag_same n 6, (g 8 refl ∙ flag_same n 7, (g 9 refl ∙ flag_same n 8, (g 10 refl ∙ flag_same n 9, (g 11 refl ∙ flag_same n 10, (g 12 refl ∙ flag_same n 11, (g 13 refl ∙ flag_same n 12, tt)))))))))))))

  others_met : AllMeet (others n s t kn zb) f
  others_met = (
    sign_met (first_signed n) (f 56) (top_bit (nat_lt n 8) a) (g 56 refl) (top_bit_le (nat_lt n 8) a la),
    (
      sign_met (second_signed n) (f 58) (top_bit (nat_lt n 8) b) (g 58 refl) (top_bit_le (nat_lt n 8) b lb),
      (
        same_le _ _ 1 (g 60 refl) (carry_le s u (used n s a)),
        (
          same_le _ _ 1 (g 61 refl) (carry_le t v (used n t b)),
          (
            g 62 refl,
            (
              digit_le _ _ (g 63 refl),
              (
                same_le _ _ 65535 (g 64 refl) (upper_le kn w),
                (
                  g 65 refl,
                  (
                    same_le _ _ 1 (g 70 refl) (either_le (is_division n) _ 0 1 (either_le (v == 0) 0 _ 1 (zero_at_most false) (carried rest (g_of n v rest))) (zero_at_most false)),
                    (
                      same_le _ _ 1 (g 75 refl) (unless_le n v _ (k1_le sign q z kn kn_le)),
                      (
                        same_le _ _ 1 (g 76 refl) (unless_le n v _ (k2_le sign q z kn kn_le hq hz)),
                        bounds_hold c i r n a b given hu hv,
                      ),
                    ),
                  ),
                ),
              ),
            ),
          ),
        ),
      ),
    ),
  )

  holds : n < 13 → HasArith ns c → L.Meets ns c i r
  holds l has =
      let ready = step n s t kn zb l (below_two (first_signed n) _ (top_bit_le (nat_lt n 8) a la)) (below_two (second_signed n) _ (top_bit_le (nat_lt n 8) b lb)) (below_two (is_high n) _ (one_at_most (w % 2 ^ 64 == 0))) (below_two (is_division n) _ (zero_at_most (v == 0))) (around ns c 12 i r) (sent ns c) shown in
      all_hold ns c 12 i r space has.stands items refl (all_said ns c has.tables (row_at items ns c 12 i r (known n s t kn zb) has.in_field (g 0 refl, meet_both (flags (suc n) 1 13) (others n s t kn zb) f flags_met others_met)) sel items small ready)

pub complete_for : (n : ℕ) → n < 13 → CompleteFor n
complete_for n l ns c i r a b has la lb given = holds ns c i r n a b la lb given l has
