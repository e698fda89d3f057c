-- The row of a shift meets the lines of Shift.
use Rattle.std.proofs.Common.{ℕ, zero, suc, ◌+◌, ◌-◌, ◌*◌, ◌/◌, ◌%◌, ◌^◌, ◌<◌, ◌≤◌, ◌≡◌, ◌⊎◌, inl, inr, true, ltb, get_or, List, [], ◌∷◌, ◌++◌, refl, sym, ap, ◌∙◌, subst, subst₂, mod-lt, lit<, div-le_self, le_trans, lt_of_le_of_lt, arith}
use Rattle.std.proofs.lemmas.Bool.{cases_lt}
use Rattle.rv_word.specs.declared.instr.OpNo.TheVariants as ops
use Rattle.rv_model.specs.Op.{value_of, word}
use Rattle.pil_ast.specs.Term.{lookup, Namespace}
use Rattle.pil_ast.specs.Columns.{Columns}
use Rattle.pil_ast.specs.Value.{Cells, around}
use Rattle.pil_ast.specs.Holds.{sent}
use Rattle.pil_exact.specs.Row.{Says}
use Rattle.pil_exact.proofs.Row.{Fact, most, AllMeet, Row, row_at, here, amount, number, fact, found as found_fact, MeetsFound}
use Rattle.pil_exact.proofs.Follows.{Rest}
use Rattle.air_ops.proofs.Limbs.{Limbs}
use Rattle.air_ops.proofs.Pairs.{◌▸◌}
use Rattle.air_ops.proofs.Airs.{operations}
use Rattle.zk_layout.specs.declared.air.Air.TheVariants as airs
use Rattle.std.specs.Prelude.{slice_index}
use Rattle.air_ops.proofs.Digits.{Digits, Cut, piece, whole, half}
use Rattle.air_ops.proofs.Twos.{word_plus, word_minus}
use Rattle.step_rows.specs.ShiftRow.{numbered_row, right, signed, wide, amount as shift_amount, at_place, upper}
use Rattle.machine_text.specs.ShiftTab
use Rattle.machine_text.specs.Shift.{items, clo}
use Rattle.air_ops.specs.Tables.{Meets}
use Rattle.air_ops.specs.Shift.{HasShift}
use Rattle.air_ops.proofs.ShiftKnown.{told, asked, IsCell, cells_of}
use Rattle.air_ops.proofs.ShiftCases as C
use Rattle.air_ops.proofs.ShiftCases.{known, with_sign, digits}
use Rattle.air_ops.proofs.ShiftValues.{low_left0, low_left1, low_right0, low_right1, low_copied0, low_copied1}
use Rattle.air_ops.proofs.ShiftSound.{sll_is, srl_is, sra_plus, sra_minus, sllw_is, srlw_is, sraw_plus, sraw_minus, split, whole_power, turned_power, one_step, two_steps}
use Rattle.air_ops.proofs.ShiftRows.{IsRowOf, at, honest_told, m_small, first_line, second_line, third_line, fourth_line}
use Rattle.air_ops.proofs.ShiftFilled.{filled, found}

-- the second digit of a value
digit_line : (lo hi v w r0 r1 ws rr : ℕ) → v ≡ w → Limbs lo hi w → lo ≡ r0 + 65536 * r1 → r0 ≤ 65535 → r1 ≤ 65535 → ws ≡ v / 2147483648 % 2 → rr ≡ v / 65536 % 32768 → r1 ≡ 32768 * ws + rr
digit_line lo hi v w r0 r1 ws rr q e l m n g h = by lo hi v r0 r1 ws rr (q ∙ e.value) l m n g h
  where
    by : (lo hi v r0 r1 ws rr : ℕ) → v ≡ lo + 4294967296 * hi → lo ≡ r0 + 65536 * r1 → r0 ≤ 65535 → r1 ≤ 65535 → ws ≡ v / 2147483648 % 2 → rr ≡ v / 65536 % 32768 → r1 ≡ 32768 * ws + rr
    by lo hi v r0 r1 ws rr e l m n g h = omega arith

no_low : (lo r : ℕ) → lo ≡ 65536 * r → lo ≡ 0 + 65536 * r
no_low lo r e = omega arith

no_high : (lo r : ℕ) → lo ≡ r → lo ≡ r + 65536 * 0
no_high lo r e = omega arith

digit : (a b m : ℕ) → a < m → b + m ≤ 65536 → a + b ≤ 65535
digit a b m h k = omega arith

digit' : (a b m : ℕ) → a < m → b + m ≤ 65536 → b + a ≤ 65535
digit' a b m h k = omega arith

only_high : (h m : ℕ) → h < m → m ≤ 65536 → h ≤ 65535
only_high h m l k = omega arith

small_0 : 0 ≤ 65535
small_0 = omega arith

full_small : 65535 ≤ 65535
full_small = omega arith

four_digits : (a a0 a1 a2 a3 : ℕ) → a < 18446744073709551616 → a0 ≡ a % 65536 → a1 ≡ a / 65536 % 65536 → a2 ≡ a / 4294967296 % 65536 → a3 ≡ a / 281474976710656 % 65536 → a ≡ (a0 + 65536 * a1) + 4294967296 * (a2 + 65536 * a3)
four_digits a a0 a1 a2 a3 l e0 e1 e2 e3 = omega arith

sign_parts : (d x s r : ℕ) → x ≡ d → s ≡ d / 32768 → r ≡ d % 32768 → x ≡ 32768 * s + r
sign_parts d x s r e g h = omega arith

row_number : (n s : ℕ) → s < 64 → (64 * n + s) / 64 ≡ n
row_number n s l = omega arith

row_rest : (n s : ℕ) → s < 64 → (64 * n + s) % 64 ≡ s
row_rest n s l = omega arith

row_in : (n s : ℕ) → n < 6 → s < 64 → 64 * n + s < 384
row_in n s l m = omega arith

few : (x v : ℕ) → x ≡ v % 1024 → x ≤ 1023
few x v e = omega arith

fifteen : (x v : ℕ) → x ≡ v % 32768 → x ≤ 32767
fifteen x v e = omega arith

over : (k : ℕ) → suc (suc (suc (suc k))) < 4 → ⊥
over k l = omega arith

quarter : (s : ℕ) → s < 64 → s / 16 < 4
quarter s l = omega arith

-- the same of a sum that the sign 1 is copied into
copied_digit : (lo hi v w r0 h3 m ws rr : ℕ) → v ≡ w → Limbs lo hi w → lo + 65536 * m ≡ r0 + 65536 * (h3 + 65536) → r0 ≤ 65535 → h3 < m → m ≤ 65536 → ws ≡ v / 2147483648 % 2 → rr ≡ v / 65536 % 32768 → h3 + 65536 ≡ m + 32768 * ws + rr
copied_digit lo hi v w r0 h3 m ws rr q e l n k j g h = by lo hi v r0 h3 m ws rr (q ∙ e.value) l n k j g h
  where
    by : (lo hi v r0 h3 m ws rr : ℕ) → v ≡ lo + 4294967296 * hi → lo + 65536 * m ≡ r0 + 65536 * (h3 + 65536) → r0 ≤ 65535 → h3 < m → m ≤ 65536 → ws ≡ v / 2147483648 % 2 → rr ≡ v / 65536 % 32768 → h3 + 65536 ≡ m + 32768 * ws + rr
    by lo hi v r0 h3 m ws rr e l n k j g h = let d : v / 65536 % 65536 + m ≡ h3 + 65536 = omega arith in omega arith

last_digit : (lo hi v w h3 m ws rr : ℕ) → v ≡ w → Limbs lo hi w → lo + m ≡ (h3 + 65536) + 4294901760 → h3 < m → m ≤ 65536 → ws ≡ v / 2147483648 % 2 → rr ≡ v / 65536 % 32768 → 65535 ≡ 32768 * ws + rr
last_digit lo hi v w h3 m ws rr q e l k j g h = by lo hi v h3 m ws rr (q ∙ e.value) l k j g h
  where
    by : (lo hi v h3 m ws rr : ℕ) → v ≡ lo + 4294967296 * hi → lo + m ≡ (h3 + 65536) + 4294901760 → h3 < m → m ≤ 65536 → ws ≡ v / 2147483648 % 2 → rr ≡ v / 65536 % 32768 → 65535 ≡ 32768 * ws + rr
    by lo hi v h3 m ws rr e l k j g h = omega arith

-- and of what is sign-extended
word_digit : (n r0 r1 v ws rr : ℕ) → v ≡ word n → n % 4294967296 ≡ r0 + 65536 * r1 → r0 ≤ 65535 → r1 ≤ 65535 → ws ≡ v / 2147483648 % 2 → rr ≡ v / 65536 % 32768 → r1 ≡ 32768 * ws + rr
word_digit n r0 r1 v ws rr q e l m g h = elim (cases_lt (r0 + 65536 * r1) 2147483648) [
  | inl z ↦ by (r0 + 65536 * r1) 0 r0 r1 v ws rr (q ∙ word_plus n (r0 + 65536 * r1) e z ∙ omega arith) refl l m g h
  | inr z ↦ by (r0 + 65536 * r1) 4294967295 r0 r1 v ws rr (q ∙ word_minus n (r0 + 65536 * r1) e z (fits r0 r1 l m)) refl l m g h
]
  where
    fits : (a b : ℕ) → a ≤ 65535 → b ≤ 65535 → a + 65536 * b < 4294967296
    fits a b h k = omega arith

    by : (lo hi r0 r1 v ws rr : ℕ) → v ≡ lo + 4294967296 * hi → lo ≡ r0 + 65536 * r1 → r0 ≤ 65535 → r1 ≤ 65535 → ws ≡ v / 2147483648 % 2 → rr ≡ v / 65536 % 32768 → r1 ≡ 32768 * ws + rr
    by lo hi r0 r1 v ws rr e l m n g h = omega arith

plain_digit : (r0 r1 v ws rr : ℕ) → v ≡ r0 + 65536 * r1 → r0 ≤ 65535 → r1 ≤ 65535 → ws ≡ v / 2147483648 % 2 → rr ≡ v / 65536 % 32768 → r1 ≡ 32768 * ws + rr
plain_digit r0 r1 v ws rr e l m g h = omega arith

minus_digit : (q r0 r1 v ws rr : ℕ) → v ≡ 18446744073709551616 - suc q → 4294967296 - suc q ≡ r0 + 65536 * r1 → q < 2147483648 → r0 ≤ 65535 → r1 ≤ 65535 → ws ≡ v / 2147483648 % 2 → rr ≡ v / 65536 % 32768 → r1 ≡ 32768 * ws + rr
minus_digit q r0 r1 v ws rr e k z l m g h = omega arith

low_of_small : (q r0 r1 : ℕ) → q ≡ r0 + 65536 * r1 → r0 ≤ 65535 → r1 ≤ 65535 → q % 4294967296 ≡ r0 + 65536 * r1
low_of_small q r0 r1 e h k = omega arith

plus_small : (a x : ℕ) → a < 18446744073709551616 → x ≡ a / 281474976710656 % 65536 / 32768 → x ≡ 0 → a < 9223372036854775808
plus_small a x l e z = omega arith

minus_large : (a x : ℕ) → a < 18446744073709551616 → x ≡ a / 281474976710656 % 65536 / 32768 → x ≡ 1 → 9223372036854775808 ≤ a
minus_large a x l e z = omega arith

sign_zero : (x s r : ℕ) → x ≡ 32768 * s + r → s ≡ 0 → x ≡ r
sign_zero x s r e z = omega arith

sign_one : (x s r : ℕ) → x ≡ 32768 * s + r → s ≡ 1 → x ≡ 32768 + r
sign_one x s r e z = omega arith

two_signs : (v : ℕ) → v ≤ 1 → (v ≡ 0) ⊎ (v ≡ 1)
two_signs zero l = inl refl
two_signs (suc v) l = inr (omega arith)

other : (a n : ℕ) → a < n → (n - suc a) + suc a ≡ n
other a n l = omega arith

none_up : (x : ℕ) → 0 ≡ 0 * x * 65535
none_up x = omega arith

plus_up : (x y : ℕ) → x ≡ y → y ≡ 0 → 0 ≡ 1 * x * 65535
plus_up x y e z = omega arith

minus_up : (x y : ℕ) → x ≡ y → y ≡ 1 → 65535 ≡ 1 * x * 65535
minus_up x y e z = omega arith

no_line : (m h l : ℕ) → 0 * m ≡ 65536 * h + l → 0 ≡ 65536 * h + l
no_line m h l e = omega arith

half_of : (a a0 a1 : ℕ) → a0 ≡ a % 65536 → a1 ≡ a / 65536 % 65536 → a % 4294967296 ≡ a0 + 65536 * a1
half_of a a0 a1 e g = omega arith

half_fits : (a0 a1 : ℕ) → a0 ≤ 65535 → a1 ≤ 65535 → a0 + 65536 * a1 < 4294967296
half_fits a0 a1 h k = omega arith

half_small : (a0 a1 r : ℕ) → a1 ≡ r → a0 ≤ 65535 → r ≤ 32767 → a0 + 65536 * a1 < 2147483648
half_small a0 a1 r e h k = omega arith

half_large : (a0 a1 r : ℕ) → a1 ≡ 32768 + r → 2147483648 ≤ a0 + 65536 * a1
half_large a0 a1 r e = omega arith

other_half : (a n : ℕ) → n + suc a ≡ 4294967296 → 2147483648 ≤ a → n < 2147483648
other_half a n e h = omega arith

five_bits : (b : ℕ) → b % 32 ≡ b % 64 % 32
five_bits b = omega arith

over' : (k : ℕ) → suc (suc k) < 2 → ⊥
over' k l = omega arith

half_turn : (s : ℕ) → s < 32 → s / 16 < 2
half_turn s l = omega arith

abbrev sharp : List (ℕ × Fact)
sharp = (9, most 1023) ∷ (19, most 32767) ∷ (29, most 32767) ∷ []

-- what is to be shown of an identity
abbrev Line : Type 0 → Type 0
Line P = P × (true ≡ true)

by_line : {P : Type 0} → P → Line P
by_line h = (h, refl)

module _ (ns : List Namespace) (c : Columns) (i r : ℕ) (has : HasShift ns c) (a b : ℕ) (la : a < 18446744073709551616) where
  abbrev x : Cells
  x = around ns c 11 i r

  abbrev f : ℕ → ℕ
  f k = c.at 11 i k r

  abbrev s : ℕ
  s = b % 64

  abbrev own : Digits
  own = digits f (f 4) (f 5)

  abbrev low : Digits
  low = digits f 0 0

  abbrev Done : Type 0
  Done = Meets ns c i r items

  less : s % 32 < 32
  less = mod-lt s {m = 32} (lit< tt)

  s_small : s < 64
  s_small = mod-lt b {m = 64} (lit< tt)

  module _ (n : ℕ) (l : n < 6) (h : IsRowOf c i r n a b) where
    at_row : (k : ℕ) → ltb k 30 ≡ true → f k ≡ slice_index (numbered_row n a b (value_of (get_or (operations airs.Shift) n ops.Sll) a b)) k
    at_row = at c i r n a b h

    row_within : (k : ℕ) → MeetsFound (f k) (found_fact told k)
    row_within = fact told f (honest_told c i r n a b h)

    cell : IsCell (λ k. c.at 3 0 k (64 * n + s)) n s
    cell = subst₂ (λ u v. IsCell (λ k. c.at 3 0 k (64 * n + s)) u v) (row_number n s s_small) (row_rest n s s_small) (cells_of _ _ _ (λ k m. has.amounts.row (64 * n + s) k (row_in n s l s_small) m))

    asked_for : Says items x (sent ns c) (lookup asked ShiftTab.shift)
    asked_for = found ns c i r has n s l s_small cell (at_row 1 refl, at_row 7 refl, at_row 10 refl ∙ sym cell.3, at_row 11 refl ∙ sym cell.4, at_row 12 refl ∙ sym cell.5, at_row 13 refl ∙ sym cell.6, at_row 14 refl ∙ sym cell.7, at_row 15 refl ∙ sym cell.8, at_row 16 refl ∙ sym cell.9, at_row 17 refl ∙ sym cell.10)

    pub own_is : a ≡ whole own
    own_is = four_digits a (f 2) (f 3) (f 4) (f 5) la (at_row 2 refl) (at_row 3 refl) (at_row 4 refl) (at_row 5 refl)

    meets_known : (k : ℕ) → shift_amount n s / 16 ≡ k → AllMeet (known (right n) (signed n) (wide n) k) f
    meets_known k e =
        let u : (j : ℕ) → at_place (shift_amount n s / 16) j ≡ at_place k j = λ j. ap (λ z. at_place z j) e in
        (at_row 0 refl, (at_row 10 refl, (at_row 11 refl, (at_row 12 refl, (at_row 13 refl ∙ u 0, (at_row 14 refl ∙ u 1, (at_row 15 refl ∙ u 2, (at_row 16 refl ∙ u 3, (m_small c i r n a b h, honest_told c i r n a b h)))))))))

    sharply : (fs : List (ℕ × Fact)) → AllMeet fs f → AllMeet (sharp ++ fs) f
    sharply fs m = (few _ _ (at_row 9 refl), (fifteen _ _ (at_row 19 refl), (fifteen _ _ (at_row 29 refl), m)))

    done : (fs : List (ℕ × Fact)) → AllMeet fs f → Rest items x 11 (here (sharp ++ fs)) (sent ns c) items → Done
    done fs m q = filled ns c i r has (sharp ++ fs) (sharply fs m) q

    with_row : (fs : List (ℕ × Fact)) → AllMeet fs f → Row items x 11 (here fs)
    with_row fs m = row_at items ns c 11 i r fs has.in_field m

    cut : (e : ℕ) → e ≡ upper n a (a / 4294967296 % 65536) → (e' : ℕ) → e' ≡ upper n a (a / 281474976710656 % 65536) → (m : ℕ) → f 17 * m ≡ 65536 → e ≤ 65535 → e' ≤ 65535 → Cut (digits f e e') m
    cut e g e' g' m t l l' = record {
      turn = t;
      small = m_small c i r n a b h;
      first = piece _ _ m _ _ (first_line c i r n a b h) t (row_within 2) (row_within 24);
      second = piece _ _ m _ _ (second_line c i r n a b h) t (row_within 3) (row_within 25);
      third = piece _ _ m _ _ (third_line c i r n a b h e g) t l (row_within 26);
      fourth = piece _ _ m _ _ (fourth_line c i r n a b h e' g') t l' (row_within 27);
    }

    -- the look-up in ShiftTab, and the lines of the operand's sign, of the digits and of the result's sign
    lines : {P Q T U : Type 0} → P → Q → T → U → Says items x (sent ns c) (lookup asked ShiftTab.shift) × (Line P × (Line (f 2 * f 17 ≡ 65536 * f 20 + f 24) × (Line (f 3 * f 17 ≡ 65536 * f 21 + f 25) × (Line Q × (Line T × (Line U × Unit {0}))))))
    lines p q t u = asked_for ▸ by_line p ▸ by_line (first_line c i r n a b h) ▸ by_line (second_line c i r n a b h) ▸ by_line q ▸ by_line t ▸ by_line u ▸ tt

  -- SLL
  module _ (h : IsRowOf c i r 0 a b) where
    sll_at : (k : ℕ) → ltb k 30 ≡ true → f k ≡ slice_index (numbered_row 0 a b (value_of ops.Sll a b)) k
    sll_at = at c i r 0 a b h

    sll_within : (k : ℕ) → MeetsFound (f k) (found_fact told k)
    sll_within = fact told f (honest_told c i r 0 a b h)

    abbrev sll_n : ℕ
    sll_n = 2 ^ (16 - s % 16)

    sll_cut : Cut own sll_n
    sll_cut = cut 0 (lit< tt) h (f 4) (sll_at 4 refl) (f 5) (sll_at 5 refl) sll_n (subst (λ z. z * sll_n ≡ 65536) (sym (sll_at 17 refl)) (whole_power (s % 16) (mod-lt s {m = 16} (lit< tt)))) (sll_within 4) (sll_within 5)

    sll_power : (k : ℕ) → s / 16 ≡ k → 2 ^ s ≡ 2 ^ (16 * k) * f 17
    sll_power k q = split s k q ∙ ap (λ z. 2 ^ (16 * k) * z) (sym (sll_at 17 refl))

    sll_value : (m : ℕ) → 2 ^ s ≡ m → value_of ops.Sll a b ≡ whole own * m % 18446744073709551616
    sll_value m e = sll_is a b s refl ∙ (λ i. own_is 0 (lit< tt) h i * e i % 18446744073709551616)

    sll_done : (k : ℕ) → shift_amount 0 s / 16 ≡ k → Rest items x 11 (here (sharp ++ known 0 0 0 k)) (sent ns c) items → Done
    sll_done k e q = done 0 (lit< tt) h (known 0 0 0 k) (meets_known 0 (lit< tt) h k e) q

    sll_sign : f 5 ≡ 32768 * f 18 + f 19
    sll_sign = sign_parts (a / 281474976710656 % 65536) _ _ _ (sll_at 5 refl) (sll_at 18 refl) (sll_at 19 refl)

    sll_holds : (k : ℕ) → k < 4 → s / 16 ≡ k → Done
    sll_holds zero l q = sll_done 0 q (lines 0 (lit< tt) h sll_sign (third_line c i r 0 a b h (f 4) (sll_at 4 refl)) (fourth_line c i r 0 a b h (f 5) (sll_at 5 refl)) (digit_line _ _ _ _ (f 24) (f 25 + f 20) (f 28) (f 29) (sll_value (f 17) (sll_power 0 q ∙ omega arith)) (C.sll0 x sll_n (with_row 0 (lit< tt) h (known 0 0 0 0) (meets_known 0 (lit< tt) h 0 q)) sll_cut) ((amount (with_row 0 (lit< tt) h (known 0 0 0 0) (meets_known 0 (lit< tt) h 0 q)) clo refl)) (sll_within 24) (digit' _ _ _ sll_cut.first.high sll_cut.second.low) (sll_at 28 refl) (sll_at 29 refl)))
    sll_holds (suc zero) l q = sll_done 1 q (lines 0 (lit< tt) h sll_sign (third_line c i r 0 a b h (f 4) (sll_at 4 refl)) (fourth_line c i r 0 a b h (f 5) (sll_at 5 refl)) (digit_line _ _ _ _ 0 (f 24) (f 28) (f 29) (sll_value (65536 * f 17) (sll_power 1 q)) (C.sll1 x sll_n (with_row 0 (lit< tt) h (known 0 0 0 1) (meets_known 0 (lit< tt) h 1 q)) sll_cut) (no_low _ _ (amount (with_row 0 (lit< tt) h (known 0 0 0 1) (meets_known 0 (lit< tt) h 1 q)) clo refl)) (small_0) (sll_within 24) (sll_at 28 refl) (sll_at 29 refl)))
    sll_holds (suc (suc zero)) l q = sll_done 2 q (lines 0 (lit< tt) h sll_sign (third_line c i r 0 a b h (f 4) (sll_at 4 refl)) (fourth_line c i r 0 a b h (f 5) (sll_at 5 refl)) (digit_line _ _ _ _ 0 0 (f 28) (f 29) (sll_value (4294967296 * f 17) (sll_power 2 q)) (C.sll2 x sll_n (with_row 0 (lit< tt) h (known 0 0 0 2) (meets_known 0 (lit< tt) h 2 q)) sll_cut) ((amount (with_row 0 (lit< tt) h (known 0 0 0 2) (meets_known 0 (lit< tt) h 2 q)) clo refl)) (small_0) (small_0) (sll_at 28 refl) (sll_at 29 refl)))
    sll_holds (suc (suc (suc zero))) l q = sll_done 3 q (lines 0 (lit< tt) h sll_sign (third_line c i r 0 a b h (f 4) (sll_at 4 refl)) (fourth_line c i r 0 a b h (f 5) (sll_at 5 refl)) (digit_line _ _ _ _ 0 0 (f 28) (f 29) (sll_value (281474976710656 * f 17) (sll_power 3 q)) (C.sll3 x sll_n (with_row 0 (lit< tt) h (known 0 0 0 3) (meets_known 0 (lit< tt) h 3 q)) sll_cut) ((amount (with_row 0 (lit< tt) h (known 0 0 0 3) (meets_known 0 (lit< tt) h 3 q)) clo refl)) (small_0) (small_0) (sll_at 28 refl) (sll_at 29 refl)))
    sll_holds (suc (suc (suc (suc k)))) l q = absurd (over k l)

  -- SRL
  module _ (h : IsRowOf c i r 1 a b) where
    srl_at : (k : ℕ) → ltb k 30 ≡ true → f k ≡ slice_index (numbered_row 1 a b (value_of ops.Srl a b)) k
    srl_at = at c i r 1 a b h

    srl_within : (k : ℕ) → MeetsFound (f k) (found_fact told k)
    srl_within = fact told f (honest_told c i r 1 a b h)

    abbrev srl_n : ℕ
    srl_n = 2 ^ (s % 16)

    srl_cut : Cut own srl_n
    srl_cut = cut 1 (lit< tt) h (f 4) (srl_at 4 refl) (f 5) (srl_at 5 refl) srl_n (subst (λ z. z * srl_n ≡ 65536) (sym (srl_at 17 refl)) (turned_power (s % 16) (mod-lt s {m = 16} (lit< tt)))) (srl_within 4) (srl_within 5)

    srl_value : value_of ops.Srl a b ≡ whole own / 2 ^ s
    srl_value = srl_is a b s refl ∙ ap (λ z. z / 2 ^ s) (own_is 1 (lit< tt) h)

    srl_done : (k : ℕ) → shift_amount 1 s / 16 ≡ k → Rest items x 11 (here (sharp ++ known 1 0 0 k)) (sent ns c) items → Done
    srl_done k e q = done 1 (lit< tt) h (known 1 0 0 k) (meets_known 1 (lit< tt) h k e) q

    srl_sign : f 5 ≡ 32768 * f 18 + f 19
    srl_sign = sign_parts (a / 281474976710656 % 65536) _ _ _ (srl_at 5 refl) (srl_at 18 refl) (srl_at 19 refl)

    srl_holds : (k : ℕ) → k < 4 → s / 16 ≡ k → Done
    srl_holds zero l q = srl_done 0 q (lines 1 (lit< tt) h srl_sign (third_line c i r 1 a b h (f 4) (srl_at 4 refl)) (fourth_line c i r 1 a b h (f 5) (srl_at 5 refl)) (digit_line _ _ _ _ (f 20 + f 25) (f 21 + f 26) (f 28) (f 29) (srl_value ∙ one_step (whole own) s q) (C.srl0 x srl_n (with_row 1 (lit< tt) h (known 1 0 0 0) (meets_known 1 (lit< tt) h 0 q)) srl_cut) ((amount (with_row 1 (lit< tt) h (known 1 0 0 0) (meets_known 1 (lit< tt) h 0 q)) clo refl)) (digit _ _ _ srl_cut.first.high srl_cut.second.low) (digit _ _ _ srl_cut.second.high srl_cut.third.low) (srl_at 28 refl) (srl_at 29 refl)))
    srl_holds (suc zero) l q = srl_done 1 q (lines 1 (lit< tt) h srl_sign (third_line c i r 1 a b h (f 4) (srl_at 4 refl)) (fourth_line c i r 1 a b h (f 5) (srl_at 5 refl)) (digit_line _ _ _ _ (f 21 + f 26) (f 22 + f 27) (f 28) (f 29) (srl_value ∙ two_steps (whole own) s 1 q) (C.srl1 x srl_n (with_row 1 (lit< tt) h (known 1 0 0 1) (meets_known 1 (lit< tt) h 1 q)) srl_cut) ((amount (with_row 1 (lit< tt) h (known 1 0 0 1) (meets_known 1 (lit< tt) h 1 q)) clo refl)) (digit _ _ _ srl_cut.second.high srl_cut.third.low) (digit _ _ _ srl_cut.third.high srl_cut.fourth.low) (srl_at 28 refl) (srl_at 29 refl)))
    srl_holds (suc (suc zero)) l q = srl_done 2 q (lines 1 (lit< tt) h srl_sign (third_line c i r 1 a b h (f 4) (srl_at 4 refl)) (fourth_line c i r 1 a b h (f 5) (srl_at 5 refl)) (digit_line _ _ _ _ (f 22 + f 27) (f 23) (f 28) (f 29) (srl_value ∙ two_steps (whole own) s 2 q) (C.srl2 x srl_n (with_row 1 (lit< tt) h (known 1 0 0 2) (meets_known 1 (lit< tt) h 2 q)) srl_cut) ((amount (with_row 1 (lit< tt) h (known 1 0 0 2) (meets_known 1 (lit< tt) h 2 q)) clo refl)) (digit _ _ _ srl_cut.third.high srl_cut.fourth.low) (only_high _ _ srl_cut.fourth.high srl_cut.small) (srl_at 28 refl) (srl_at 29 refl)))
    srl_holds (suc (suc (suc zero))) l q = srl_done 3 q (lines 1 (lit< tt) h srl_sign (third_line c i r 1 a b h (f 4) (srl_at 4 refl)) (fourth_line c i r 1 a b h (f 5) (srl_at 5 refl)) (digit_line _ _ _ _ (f 23) 0 (f 28) (f 29) (srl_value ∙ two_steps (whole own) s 3 q) (C.srl3 x srl_n (with_row 1 (lit< tt) h (known 1 0 0 3) (meets_known 1 (lit< tt) h 3 q)) srl_cut) (no_high _ _ (amount (with_row 1 (lit< tt) h (known 1 0 0 3) (meets_known 1 (lit< tt) h 3 q)) clo refl)) (only_high _ _ srl_cut.fourth.high srl_cut.small) (small_0) (srl_at 28 refl) (srl_at 29 refl)))
    srl_holds (suc (suc (suc (suc k)))) l q = absurd (over k l)

  -- SRA
  module _ (h : IsRowOf c i r 2 a b) where
    sra_at : (k : ℕ) → ltb k 30 ≡ true → f k ≡ slice_index (numbered_row 2 a b (value_of ops.Sra a b)) k
    sra_at = at c i r 2 a b h

    sra_within : (k : ℕ) → MeetsFound (f k) (found_fact told k)
    sra_within = fact told f (honest_told c i r 2 a b h)

    abbrev sra_n : ℕ
    sra_n = 2 ^ (s % 16)

    sra_cut : Cut own sra_n
    sra_cut = cut 2 (lit< tt) h (f 4) (sra_at 4 refl) (f 5) (sra_at 5 refl) sra_n (subst (λ z. z * sra_n ≡ 65536) (sym (sra_at 17 refl)) (turned_power (s % 16) (mod-lt s {m = 16} (lit< tt)))) (sra_within 4) (sra_within 5)

    sra_sign : f 5 ≡ 32768 * f 18 + f 19
    sra_sign = sign_parts (a / 281474976710656 % 65536) _ _ _ (sra_at 5 refl) (sra_at 18 refl) (sra_at 19 refl)

    plus_value : f 18 ≡ 0 → value_of ops.Sra a b ≡ whole own / 2 ^ s
    plus_value z = sra_plus a b s refl (plus_small a (f 18) la (sra_at 18 refl) z) ∙ ap (λ z. z / 2 ^ s) (own_is 2 (lit< tt) h)

    abbrev turned : ℕ
    turned = 18446744073709551616 - suc (whole own)

    turned_is : turned + suc (whole own) ≡ 18446744073709551616
    turned_is = other (whole own) 18446744073709551616 (subst (λ z. z < 18446744073709551616) (own_is 2 (lit< tt) h) la)

    minus_value : f 18 ≡ 1 → value_of ops.Sra a b ≡ 18446744073709551616 - suc (turned / 2 ^ s)
    minus_value z = sra_minus a b s refl (minus_large a (f 18) la (sra_at 18 refl) z) turned (subst (λ w. turned + suc w ≡ 18446744073709551616) (sym (own_is 2 (lit< tt) h)) turned_is)

    sra_known : (sb k : ℕ) → f 18 ≡ sb → shift_amount 2 s / 16 ≡ k → AllMeet (with_sign sb 1 1 0 k) f
    sra_known sb k z e = (z, meets_known 2 (lit< tt) h k e)

    sra_done : (sb k : ℕ) → f 18 ≡ sb → shift_amount 2 s / 16 ≡ k → Rest items x 11 (here (sharp ++ with_sign sb 1 1 0 k)) (sent ns c) items → Done
    sra_done sb k z e q = done 2 (lit< tt) h (with_sign sb 1 1 0 k) (sra_known sb k z e) q

    plus_holds : f 18 ≡ 0 → (k : ℕ) → k < 4 → s / 16 ≡ k → Done
    plus_holds z zero l q = sra_done 0 0 z q (lines 2 (lit< tt) h (sign_zero _ _ _ sra_sign z) (third_line c i r 2 a b h (f 4) (sra_at 4 refl)) (fourth_line c i r 2 a b h (f 5) (sra_at 5 refl)) (digit_line _ _ _ _ (f 20 + f 25) (f 21 + f 26) (f 28) (f 29) (plus_value z ∙ one_step (whole own) s q) (C.plus0 x sra_n (with_row 2 (lit< tt) h (with_sign 0 1 1 0 0) (sra_known 0 0 z q)) sra_cut) ((amount (with_row 2 (lit< tt) h (with_sign 0 1 1 0 0) (sra_known 0 0 z q)) clo refl)) (digit _ _ _ sra_cut.first.high sra_cut.second.low) (digit _ _ _ sra_cut.second.high sra_cut.third.low) (sra_at 28 refl) (sra_at 29 refl)))
    plus_holds z (suc zero) l q = sra_done 0 1 z q (lines 2 (lit< tt) h (sign_zero _ _ _ sra_sign z) (third_line c i r 2 a b h (f 4) (sra_at 4 refl)) (fourth_line c i r 2 a b h (f 5) (sra_at 5 refl)) (digit_line _ _ _ _ (f 21 + f 26) (f 22 + f 27) (f 28) (f 29) (plus_value z ∙ two_steps (whole own) s 1 q) (C.plus1 x sra_n (with_row 2 (lit< tt) h (with_sign 0 1 1 0 1) (sra_known 0 1 z q)) sra_cut) ((amount (with_row 2 (lit< tt) h (with_sign 0 1 1 0 1) (sra_known 0 1 z q)) clo refl)) (digit _ _ _ sra_cut.second.high sra_cut.third.low) (digit _ _ _ sra_cut.third.high sra_cut.fourth.low) (sra_at 28 refl) (sra_at 29 refl)))
    plus_holds z (suc (suc zero)) l q = sra_done 0 2 z q (lines 2 (lit< tt) h (sign_zero _ _ _ sra_sign z) (third_line c i r 2 a b h (f 4) (sra_at 4 refl)) (fourth_line c i r 2 a b h (f 5) (sra_at 5 refl)) (digit_line _ _ _ _ (f 22 + f 27) (f 23) (f 28) (f 29) (plus_value z ∙ two_steps (whole own) s 2 q) (C.plus2 x sra_n (with_row 2 (lit< tt) h (with_sign 0 1 1 0 2) (sra_known 0 2 z q)) sra_cut) ((amount (with_row 2 (lit< tt) h (with_sign 0 1 1 0 2) (sra_known 0 2 z q)) clo refl)) (digit _ _ _ sra_cut.third.high sra_cut.fourth.low) (only_high _ _ sra_cut.fourth.high sra_cut.small) (sra_at 28 refl) (sra_at 29 refl)))
    plus_holds z (suc (suc (suc zero))) l q = sra_done 0 3 z q (lines 2 (lit< tt) h (sign_zero _ _ _ sra_sign z) (third_line c i r 2 a b h (f 4) (sra_at 4 refl)) (fourth_line c i r 2 a b h (f 5) (sra_at 5 refl)) (digit_line _ _ _ _ (f 23) 0 (f 28) (f 29) (plus_value z ∙ two_steps (whole own) s 3 q) (C.plus3 x sra_n (with_row 2 (lit< tt) h (with_sign 0 1 1 0 3) (sra_known 0 3 z q)) sra_cut) (no_high _ _ (amount (with_row 2 (lit< tt) h (with_sign 0 1 1 0 3) (sra_known 0 3 z q)) clo refl)) (only_high _ _ sra_cut.fourth.high sra_cut.small) (small_0) (sra_at 28 refl) (sra_at 29 refl)))
    plus_holds z (suc (suc (suc (suc k)))) l q = absurd (over k l)

    minus_holds : f 18 ≡ 1 → (k : ℕ) → k < 4 → s / 16 ≡ k → Done
    minus_holds z zero l q = sra_done 1 0 z q (lines 2 (lit< tt) h (sign_one _ _ _ sra_sign z) (third_line c i r 2 a b h (f 4) (sra_at 4 refl)) (fourth_line c i r 2 a b h (f 5) (sra_at 5 refl)) (digit_line _ _ _ _ (f 20 + f 25) (f 21 + f 26) (f 28) (f 29) (minus_value z ∙ ap (λ w. 18446744073709551616 - suc w) (one_step turned s q)) (C.minus0 x sra_n turned turned_is (with_row 2 (lit< tt) h (with_sign 1 1 1 0 0) (sra_known 1 0 z q)) sra_cut) (amount (with_row 2 (lit< tt) h (with_sign 1 1 1 0 0) (sra_known 1 0 z q)) clo refl) (digit _ _ _ sra_cut.first.high sra_cut.second.low) (digit _ _ _ sra_cut.second.high sra_cut.third.low) (sra_at 28 refl) (sra_at 29 refl)))
    minus_holds z (suc zero) l q = sra_done 1 1 z q (lines 2 (lit< tt) h (sign_one _ _ _ sra_sign z) (third_line c i r 2 a b h (f 4) (sra_at 4 refl)) (fourth_line c i r 2 a b h (f 5) (sra_at 5 refl)) (digit_line _ _ _ _ (f 21 + f 26) (f 22 + f 27) (f 28) (f 29) (minus_value z ∙ ap (λ w. 18446744073709551616 - suc w) (two_steps turned s 1 q)) (C.minus1 x sra_n turned turned_is (with_row 2 (lit< tt) h (with_sign 1 1 1 0 1) (sra_known 1 1 z q)) sra_cut) (amount (with_row 2 (lit< tt) h (with_sign 1 1 1 0 1) (sra_known 1 1 z q)) clo refl) (digit _ _ _ sra_cut.second.high sra_cut.third.low) (digit _ _ _ sra_cut.third.high sra_cut.fourth.low) (sra_at 28 refl) (sra_at 29 refl)))
    minus_holds z (suc (suc zero)) l q = sra_done 1 2 z q (lines 2 (lit< tt) h (sign_one _ _ _ sra_sign z) (third_line c i r 2 a b h (f 4) (sra_at 4 refl)) (fourth_line c i r 2 a b h (f 5) (sra_at 5 refl)) (copied_digit _ _ _ _ (f 22 + f 27) (f 23) (f 17) (f 28) (f 29) (minus_value z ∙ ap (λ w. 18446744073709551616 - suc w) (two_steps turned s 2 q)) (C.minus2 x sra_n turned turned_is (with_row 2 (lit< tt) h (with_sign 1 1 1 0 2) (sra_known 1 2 z q)) sra_cut) (number (with_row 2 (lit< tt) h (with_sign 1 1 1 0 2) (sra_known 1 2 z q)) clo refl (C.small_high _ _ _ _ sra_cut.small)) (digit _ _ _ sra_cut.third.high sra_cut.fourth.low) sra_cut.fourth.high sra_cut.small (sra_at 28 refl) (sra_at 29 refl)))
    minus_holds z (suc (suc (suc zero))) l q = sra_done 1 3 z q (lines 2 (lit< tt) h (sign_one _ _ _ sra_sign z) (third_line c i r 2 a b h (f 4) (sra_at 4 refl)) (fourth_line c i r 2 a b h (f 5) (sra_at 5 refl)) (last_digit _ _ _ _ (f 23) (f 17) (f 28) (f 29) (minus_value z ∙ ap (λ w. 18446744073709551616 - suc w) (two_steps turned s 3 q)) (C.minus3 x sra_n turned turned_is (with_row 2 (lit< tt) h (with_sign 1 1 1 0 3) (sra_known 1 3 z q)) sra_cut) (number (with_row 2 (lit< tt) h (with_sign 1 1 1 0 3) (sra_known 1 3 z q)) clo refl (C.small_one _ _ sra_cut.small)) sra_cut.fourth.high sra_cut.small (sra_at 28 refl) (sra_at 29 refl)))
    minus_holds z (suc (suc (suc (suc k)))) l q = absurd (over k l)

    sra_holds : Done
    sra_holds = elim (two_signs (f 18) (sra_within 18)) [ inl z ↦ plus_holds z (s / 16) (quarter s s_small) refl | inr z ↦ minus_holds z (s / 16) (quarter s s_small) refl ]

  -- SLLW
  module _ (h : IsRowOf c i r 3 a b) where
    sllw_at : (k : ℕ) → ltb k 30 ≡ true → f k ≡ slice_index (numbered_row 3 a b (value_of ops.Sllw a b)) k
    sllw_at = at c i r 3 a b h

    sllw_within : (k : ℕ) → MeetsFound (f k) (found_fact told k)
    sllw_within = fact told f (honest_told c i r 3 a b h)

    abbrev sllw_n : ℕ
    sllw_n = 2 ^ (16 - s % 32 % 16)

    sllw_turn : f 17 * sllw_n ≡ 65536
    sllw_turn = subst (λ z. z * sllw_n ≡ 65536) (sym (sllw_at 17 refl)) (whole_power (s % 32 % 16) (mod-lt (s % 32) {m = 16} (lit< tt)))

    sllw_sign : f 3 ≡ 32768 * f 18 + f 19
    sllw_sign = sign_parts (a / 65536 % 65536) _ _ _ (sllw_at 3 refl) (sllw_at 18 refl) (sllw_at 19 refl)

    sllw_low : a % 4294967296 ≡ half low
    sllw_low = half_of a (f 2) (f 3) (sllw_at 2 refl) (sllw_at 3 refl)

    sllw_third : 0 * f 17 ≡ 65536 * f 22 + f 26
    sllw_third = third_line c i r 3 a b h 0 (none_up _)

    sllw_fourth : 0 * f 17 ≡ 65536 * f 23 + f 27
    sllw_fourth = fourth_line c i r 3 a b h 0 (none_up _)

    sllw_cut : Cut low sllw_n
    sllw_cut = cut 3 (lit< tt) h 0 (none_up _) 0 (none_up _) sllw_n sllw_turn small_0 small_0

    sllw_value : (m : ℕ) → 2 ^ (s % 32) ≡ m → value_of ops.Sllw a b ≡ word (half low * m)
    sllw_value m e = sllw_is a b (s % 32) (half low) sllw_low (five_bits b) ∙ ap (λ z. word (half low * z)) e

    sllw_power : (k : ℕ) → s % 32 / 16 ≡ k → 2 ^ (s % 32) ≡ 2 ^ (16 * k) * f 17
    sllw_power k q = split (s % 32) k q ∙ ap (λ z. 2 ^ (16 * k) * z) (sym (sllw_at 17 refl))

    sllw_holds : (k : ℕ) → k < 2 → s % 32 / 16 ≡ k → Done
    sllw_holds zero l q = done 3 (lit< tt) h (known 0 0 1 0) (meets_known 3 (lit< tt) h 0 q) (lines 3 (lit< tt) h sllw_sign (no_line _ _ _ sllw_third) (no_line _ _ _ sllw_fourth) (word_digit _ (f 24) (f 25 + f 20) _ (f 28) (f 29) (sllw_value (f 17) (sllw_power 0 q ∙ omega arith)) (low_left0 low sllw_n sllw_cut) (sllw_within 24) (digit' _ _ _ sllw_cut.first.high sllw_cut.second.low) (sllw_at 28 refl) (sllw_at 29 refl)))
    sllw_holds (suc zero) l q = done 3 (lit< tt) h (known 0 0 1 1) (meets_known 3 (lit< tt) h 1 q) (lines 3 (lit< tt) h sllw_sign (no_line _ _ _ sllw_third) (no_line _ _ _ sllw_fourth) (word_digit _ 0 (f 24) _ (f 28) (f 29) (sllw_value (65536 * f 17) (sllw_power 1 q)) (low_left1 low sllw_n sllw_cut) small_0 (sllw_within 24) (sllw_at 28 refl) (sllw_at 29 refl)))
    sllw_holds (suc (suc k)) l q = absurd (over' k l)

  -- SRLW
  module _ (h : IsRowOf c i r 4 a b) where
    srlw_at : (k : ℕ) → ltb k 30 ≡ true → f k ≡ slice_index (numbered_row 4 a b (value_of ops.Srlw a b)) k
    srlw_at = at c i r 4 a b h

    srlw_within : (k : ℕ) → MeetsFound (f k) (found_fact told k)
    srlw_within = fact told f (honest_told c i r 4 a b h)

    abbrev srlw_n : ℕ
    srlw_n = 2 ^ (s % 32 % 16)

    srlw_turn : f 17 * srlw_n ≡ 65536
    srlw_turn = subst (λ z. z * srlw_n ≡ 65536) (sym (srlw_at 17 refl)) (turned_power (s % 32 % 16) (mod-lt (s % 32) {m = 16} (lit< tt)))

    srlw_sign : f 3 ≡ 32768 * f 18 + f 19
    srlw_sign = sign_parts (a / 65536 % 65536) _ _ _ (srlw_at 3 refl) (srlw_at 18 refl) (srlw_at 19 refl)

    srlw_low : a % 4294967296 ≡ half low
    srlw_low = half_of a (f 2) (f 3) (srlw_at 2 refl) (srlw_at 3 refl)

    srlw_third : 0 * f 17 ≡ 65536 * f 22 + f 26
    srlw_third = third_line c i r 4 a b h 0 (none_up _)

    srlw_fourth : 0 * f 17 ≡ 65536 * f 23 + f 27
    srlw_fourth = fourth_line c i r 4 a b h 0 (none_up _)

    srlw_cut : Cut low srlw_n
    srlw_cut = cut 4 (lit< tt) h 0 (none_up _) 0 (none_up _) srlw_n srlw_turn small_0 small_0

    srlw_value : value_of ops.Srlw a b ≡ word (half low / 2 ^ (s % 32))
    srlw_value = srlw_is a b (s % 32) (half low) srlw_low (five_bits b)

    srlw_holds : (k : ℕ) → k < 2 → s % 32 / 16 ≡ k → Done
    srlw_holds zero l q = done 4 (lit< tt) h (known 1 0 1 0) (meets_known 4 (lit< tt) h 0 q) (lines 4 (lit< tt) h srlw_sign (no_line _ _ _ srlw_third) (no_line _ _ _ srlw_fourth) (word_digit _ (f 20 + f 25) (f 21 + f 26) _ (f 28) (f 29) (srlw_value ∙ ap word (one_step (half low) (s % 32) q)) (low_of_small _ _ _ (low_right0 low srlw_n srlw_cut (no_line _ _ _ srlw_third) (no_line _ _ _ srlw_fourth)) (digit _ _ _ srlw_cut.first.high srlw_cut.second.low) (digit _ _ _ srlw_cut.second.high srlw_cut.third.low)) (digit _ _ _ srlw_cut.first.high srlw_cut.second.low) (digit _ _ _ srlw_cut.second.high srlw_cut.third.low) (srlw_at 28 refl) (srlw_at 29 refl)))
    srlw_holds (suc zero) l q = done 4 (lit< tt) h (known 1 0 1 1) (meets_known 4 (lit< tt) h 1 q) (lines 4 (lit< tt) h srlw_sign (no_line _ _ _ srlw_third) (no_line _ _ _ srlw_fourth) (word_digit _ (f 21 + f 26) (f 22 + f 27) _ (f 28) (f 29) (srlw_value ∙ ap word (two_steps (half low) (s % 32) 1 q)) (low_of_small _ _ _ (low_right1 low srlw_n srlw_cut (no_line _ _ _ srlw_third) (no_line _ _ _ srlw_fourth)) (digit _ _ _ srlw_cut.second.high srlw_cut.third.low) (digit _ _ _ srlw_cut.third.high srlw_cut.fourth.low)) (digit _ _ _ srlw_cut.second.high srlw_cut.third.low) (digit _ _ _ srlw_cut.third.high srlw_cut.fourth.low) (srlw_at 28 refl) (srlw_at 29 refl)))
    srlw_holds (suc (suc k)) l q = absurd (over' k l)

  -- SRAW
  module _ (h : IsRowOf c i r 5 a b) where
    sraw_at : (k : ℕ) → ltb k 30 ≡ true → f k ≡ slice_index (numbered_row 5 a b (value_of ops.Sraw a b)) k
    sraw_at = at c i r 5 a b h

    sraw_within : (k : ℕ) → MeetsFound (f k) (found_fact told k)
    sraw_within = fact told f (honest_told c i r 5 a b h)

    abbrev sraw_n : ℕ
    sraw_n = 2 ^ (s % 32 % 16)

    sraw_turn : f 17 * sraw_n ≡ 65536
    sraw_turn = subst (λ z. z * sraw_n ≡ 65536) (sym (sraw_at 17 refl)) (turned_power (s % 32 % 16) (mod-lt (s % 32) {m = 16} (lit< tt)))

    sraw_sign : f 3 ≡ 32768 * f 18 + f 19
    sraw_sign = sign_parts (a / 65536 % 65536) _ _ _ (sraw_at 3 refl) (sraw_at 18 refl) (sraw_at 19 refl)

    sraw_low : a % 4294967296 ≡ half low
    sraw_low = half_of a (f 2) (f 3) (sraw_at 2 refl) (sraw_at 3 refl)

    sraw_known : (sb k : ℕ) → f 18 ≡ sb → shift_amount 5 s / 16 ≡ k → AllMeet (with_sign sb 1 1 1 k) f
    sraw_known sb k z e = (z, meets_known 5 (lit< tt) h k e)

    module _ (z : f 18 ≡ 0) where
      plusw_cut : Cut low sraw_n
      plusw_cut = cut 5 (lit< tt) h 0 (plus_up _ _ (sym (sraw_at 18 refl)) z) 0 (plus_up _ _ (sym (sraw_at 18 refl)) z) sraw_n sraw_turn small_0 small_0

      plusw_third : 0 ≡ 65536 * f 22 + f 26
      plusw_third = no_line _ _ _ (third_line c i r 5 a b h 0 (plus_up _ _ (sym (sraw_at 18 refl)) z))

      plusw_fourth : 0 ≡ 65536 * f 23 + f 27
      plusw_fourth = no_line _ _ _ (fourth_line c i r 5 a b h 0 (plus_up _ _ (sym (sraw_at 18 refl)) z))

      plusw_value : value_of ops.Sraw a b ≡ half low / 2 ^ (s % 32)
      plusw_value = sraw_plus a b (s % 32) (half low) sraw_low (five_bits b) (half_small (f 2) (f 3) (f 19) (sign_zero _ _ _ sraw_sign z) (sraw_within 2) (fifteen _ _ (sraw_at 19 refl)))

      plusw_holds : (k : ℕ) → k < 2 → s % 32 / 16 ≡ k → Done
      plusw_holds zero l q = done 5 (lit< tt) h (with_sign 0 1 1 1 0) (sraw_known 0 0 z q) (lines 5 (lit< tt) h (sign_zero _ _ _ sraw_sign z) plusw_third plusw_fourth (plain_digit (f 20 + f 25) (f 21 + f 26) _ (f 28) (f 29) (plusw_value ∙ one_step (half low) (s % 32) q ∙ low_right0 low sraw_n plusw_cut plusw_third plusw_fourth) (digit _ _ _ plusw_cut.first.high plusw_cut.second.low) (digit _ _ _ plusw_cut.second.high plusw_cut.third.low) (sraw_at 28 refl) (sraw_at 29 refl)))
      plusw_holds (suc zero) l q = done 5 (lit< tt) h (with_sign 0 1 1 1 1) (sraw_known 0 1 z q) (lines 5 (lit< tt) h (sign_zero _ _ _ sraw_sign z) plusw_third plusw_fourth (plain_digit (f 21 + f 26) (f 22 + f 27) _ (f 28) (f 29) (plusw_value ∙ two_steps (half low) (s % 32) 1 q ∙ low_right1 low sraw_n plusw_cut plusw_third plusw_fourth) (digit _ _ _ plusw_cut.second.high plusw_cut.third.low) (digit _ _ _ plusw_cut.third.high plusw_cut.fourth.low) (sraw_at 28 refl) (sraw_at 29 refl)))
      plusw_holds (suc (suc k)) l q = absurd (over' k l)

    module _ (z : f 18 ≡ 1) where
      abbrev full : Digits
      full = digits f 65535 65535

      minusw_cut : Cut full sraw_n
      minusw_cut = cut 5 (lit< tt) h 65535 (minus_up _ _ (sym (sraw_at 18 refl)) z) 65535 (minus_up _ _ (sym (sraw_at 18 refl)) z) sraw_n sraw_turn full_small full_small

      minusw_third : 65535 * f 17 ≡ 65536 * f 22 + f 26
      minusw_third = third_line c i r 5 a b h 65535 (minus_up _ _ (sym (sraw_at 18 refl)) z)

      minusw_fourth : 65535 * f 17 ≡ 65536 * f 23 + f 27
      minusw_fourth = fourth_line c i r 5 a b h 65535 (minus_up _ _ (sym (sraw_at 18 refl)) z)

      large : 2147483648 ≤ half low
      large = half_large (f 2) (f 3) (f 19) (sign_one _ _ _ sraw_sign z)

      abbrev low_turned : ℕ
      low_turned = 4294967296 - suc (half low)

      low_turned_is : low_turned + suc (half low) ≡ 4294967296
      low_turned_is = other (half low) 4294967296 (half_fits (f 2) (f 3) (sraw_within 2) (sraw_within 3))

      low_turned_small : low_turned < 2147483648
      low_turned_small = other_half (half low) low_turned low_turned_is large

      minusw_value : value_of ops.Sraw a b ≡ 18446744073709551616 - suc (low_turned / 2 ^ (s % 32))
      minusw_value = sraw_minus a b (s % 32) (half low) sraw_low (five_bits b) large low_turned low_turned_is

      minusw_holds : (k : ℕ) → k < 2 → s % 32 / 16 ≡ k → Done
      minusw_holds zero l q = done 5 (lit< tt) h (with_sign 1 1 1 1 0) (sraw_known 1 0 z q) (lines 5 (lit< tt) h (sign_one _ _ _ sraw_sign z) minusw_third minusw_fourth (minus_digit _ (f 20 + f 25) (f 21 + f 26) _ (f 28) (f 29) (minusw_value ∙ ap (λ w. 18446744073709551616 - suc w) (one_step low_turned (s % 32) q)) (low_copied0 full sraw_n minusw_cut minusw_third minusw_fourth low_turned low_turned_is) (lt_of_le_of_lt (div-le_self low_turned sraw_n) low_turned_small) (digit _ _ _ minusw_cut.first.high minusw_cut.second.low) (digit _ _ _ minusw_cut.second.high minusw_cut.third.low) (sraw_at 28 refl) (sraw_at 29 refl)))
      minusw_holds (suc zero) l q = done 5 (lit< tt) h (with_sign 1 1 1 1 1) (sraw_known 1 1 z q) (lines 5 (lit< tt) h (sign_one _ _ _ sraw_sign z) minusw_third minusw_fourth (minus_digit _ (f 21 + f 26) (f 22 + f 27) _ (f 28) (f 29) (minusw_value ∙ ap (λ w. 18446744073709551616 - suc w) (two_steps low_turned (s % 32) 1 q)) (low_copied1 full sraw_n minusw_cut minusw_third minusw_fourth low_turned low_turned_is) (lt_of_le_of_lt (le_trans (div-le_self (low_turned / sraw_n) 65536) (div-le_self low_turned sraw_n)) low_turned_small) (digit _ _ _ minusw_cut.second.high minusw_cut.third.low) (digit _ _ _ minusw_cut.third.high minusw_cut.fourth.low) (sraw_at 28 refl) (sraw_at 29 refl)))
      minusw_holds (suc (suc k)) l q = absurd (over' k l)

    sraw_holds : Done
    sraw_holds = elim (two_signs (f 18) (sraw_within 18)) [ inl z ↦ plusw_holds z (s % 32 / 16) (half_turn (s % 32) less) refl | inr z ↦ minusw_holds z (s % 32 / 16) (half_turn (s % 32) less) refl ]

-- the lines of each shift
module _ (ns : List Namespace) (c : Columns) (i r a b : ℕ) (has : HasShift ns c) (la : a < 18446744073709551616) where
  pub sll_meets : IsRowOf c i r 0 a b → Meets ns c i r items
  sll_meets h = sll_holds ns c i r has a b la h (b % 64 / 16) (quarter (b % 64) (s_small ns c i r has a b la)) refl

  pub srl_meets : IsRowOf c i r 1 a b → Meets ns c i r items
  srl_meets h = srl_holds ns c i r has a b la h (b % 64 / 16) (quarter (b % 64) (s_small ns c i r has a b la)) refl

  pub sra_meets : IsRowOf c i r 2 a b → Meets ns c i r items
  sra_meets h = sra_holds ns c i r has a b la h

  pub sllw_meets : IsRowOf c i r 3 a b → Meets ns c i r items
  sllw_meets h = sllw_holds ns c i r has a b la h (b % 64 % 32 / 16) (half_turn (b % 64 % 32) (less ns c i r has a b la)) refl

  pub srlw_meets : IsRowOf c i r 4 a b → Meets ns c i r items
  srlw_meets h = srlw_holds ns c i r has a b la h (b % 64 % 32 / 16) (half_turn (b % 64 % 32) (less ns c i r has a b la)) refl

  pub sraw_meets : IsRowOf c i r 5 a b → Meets ns c i r items
  sraw_meets h = sraw_holds ns c i r has a b la h
