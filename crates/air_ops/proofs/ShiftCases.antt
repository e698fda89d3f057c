-- Shift's result limbs, by operation and by the number of whole digits.
use Rattle.std.proofs.Common.{ℕ, suc, ◌+◌, ◌-◌, ◌*◌, ◌/◌, ◌%◌, ◌<◌, ◌≤◌, ◌≡◌, List, ◌∷◌, refl, div-le_self, le_trans, lt_of_le_of_lt, arith}
use Rattle.pil_ast.specs.Term.{item_at}
use Rattle.pil_ast.specs.Value.{Cells, value}
use Rattle.pil_exact.proofs.Row.{Fact, is, most, AllMeet, Row, here, line, number, fact, found, MeetsFound, amount, left_term, right_term}
use Rattle.rv_model.specs.Op.{word}
use Rattle.air_ops.proofs.Limbs.{Limbs}
use Rattle.air_ops.proofs.Twos.{word_limbs}
use Rattle.air_ops.proofs.Digits.{Digits, Cut, whole, half, piece}
use Rattle.step_rows.specs.ShiftRow.{at_place}
use Rattle.machine_text.specs.Shift.{items, clo, chi}
use Rattle.air_ops.proofs.ShiftKnown.{told}
use Rattle.air_ops.proofs.ShiftValues.{left0, left1, left2, left3, right0, right1, right2, right3, copied0, copied1, copied2, copied3, low_left0, low_left1, low_right0, low_right1, low_copied0, low_copied1, plus_limbs, minus_limbs}

-- a selected row whose columns rt, ar and ww are these, and whose u has its 1 at the place k
abbrev pub known : ℕ → ℕ → ℕ → ℕ → List (ℕ × Fact)
known rt ar ww k =
    (0, is 1) ∷ (10, is rt) ∷ (11, is ar) ∷ (12, is ww) ∷ (13, is (at_place k 0)) ∷ (14, is (at_place k 1)) ∷ (15, is (at_place k 2)) ∷ (16, is (at_place k 3)) ∷ (17, most 65536) ∷ told

-- the same, with this sign of the first operand
abbrev pub with_sign : ℕ → ℕ → ℕ → ℕ → ℕ → List (ℕ × Fact)
with_sign sb rt ar ww k = (18, is sb) ∷ known rt ar ww k

-- the four digits that are multiplied
abbrev pub digits : (ℕ → ℕ) → ℕ → ℕ → Digits
digits f e2 e3 = record { a0 = f 2; a1 = f 3; a2 = e2; a3 = e3; m = f 17; h0 = f 20; h1 = f 21; h2 = f 22; h3 = f 23; l0 = f 24; l1 = f 25; l2 = f 26; l3 = f 27 }

-- what the lines of a row say of its values
abbrev pub Meets : Cells → Type 0
Meets x = (k : ℕ) → value items x (left_term (item_at items k)) ≡ value items x (right_term (item_at items k))

-- the limbs of the result
abbrev pub Results : Cells → ℕ → Type 0
Results x v = Limbs (value items x clo) (value items x chi) v

-- What is known of the digits: of 64 bits, of 32 bits with nothing above, and of 32 bits with their sign above.
abbrev pub plain : List (ℕ × Fact)
plain = (0, is 1) ∷ (12, is 0) ∷ (17, most 65536) ∷ told

abbrev pub narrow : List (ℕ × Fact)
narrow = (0, is 1) ∷ (11, is 0) ∷ (12, is 1) ∷ (17, most 65536) ∷ told

abbrev pub narrow_signed : ℕ → List (ℕ × Fact)
narrow_signed sb = (0, is 1) ∷ (11, is 1) ∷ (12, is 1) ∷ (18, is sb) ∷ (17, most 65536) ∷ told

nothing : (m h l : ℕ) → 0 ≡ 65536 * h + l → 0 * m ≡ 65536 * h + l
nothing m h l e = omega arith

module _ (x : Cells) (n : ℕ) (meets : Meets x) where
  abbrev g : ℕ → ℕ
  g = x.column 0 11

  pub cut_plain : Row items x 11 (here plain) → g 17 * n ≡ 65536 → Cut (digits g (g 4) (g 5)) n
  cut_plain row t =
      let b = fact plain g (row.meets 0) in
      record {
        turn = t;
        small = b 17;
        first = piece _ _ n _ _ (line row (item_at items 58) (meets 58) refl) t (b 2) (b 24);
        second = piece _ _ n _ _ (line row (item_at items 59) (meets 59) refl) t (b 3) (b 25);
        third = piece _ _ n _ _ (line row (item_at items 60) (meets 60) refl) t (b 4) (b 26);
        fourth = piece _ _ n _ _ (line row (item_at items 61) (meets 61) refl) t (b 5) (b 27);
      }

  cut_by : (e : ℕ) → e ≤ 65535 → g 17 * n ≡ 65536 → g 17 ≤ 65536 → ((k : ℕ) → MeetsFound (g k) (found told k)) → g 2 * g 17 ≡ 65536 * g 20 + g 24 → g 3 * g 17 ≡ 65536 * g 21 + g 25 → e * g 17 ≡ 65536 * g 22 + g 26 → e * g 17 ≡ 65536 * g 23 + g 27 → Cut (digits g e e) n
  cut_by e l t s b p0 p1 p2 p3 =
      record { turn = t; small = s; first = piece _ _ n _ _ p0 t (b 2) (b 24); second = piece _ _ n _ _ p1 t (b 3) (b 25); third = piece _ _ n _ _ p2 t l (b 26); fourth = piece _ _ n _ _ p3 t l (b 27) }

  pub cut_narrow : Row items x 11 (here narrow) → AllMeet told g → g 17 * n ≡ 65536 → Cut (digits g 0 0) n × (0 ≡ 65536 * g 22 + g 26) × (0 ≡ 65536 * g 23 + g 27)
  cut_narrow row within t =
      let p2 : 0 ≡ 65536 * g 22 + g 26 = line row (item_at items 60) (meets 60) refl in
      let p3 : 0 ≡ 65536 * g 23 + g 27 = line row (item_at items 61) (meets 61) refl in
      (cut_by 0 (omega arith) t (fact narrow g (row.meets 0) 17) (fact told g within) (line row (item_at items 58) (meets 58) refl) (line row (item_at items 59) (meets 59) refl) (nothing _ _ _ p2) (nothing _ _ _ p3), p2, p3)

  pub cut_plus : Row items x 11 (here (narrow_signed 0)) → AllMeet told g → g 17 * n ≡ 65536 → Cut (digits g 0 0) n × (0 ≡ 65536 * g 22 + g 26) × (0 ≡ 65536 * g 23 + g 27)
  cut_plus row within t =
      let p2 : 0 ≡ 65536 * g 22 + g 26 = line row (item_at items 60) (meets 60) refl in
      let p3 : 0 ≡ 65536 * g 23 + g 27 = line row (item_at items 61) (meets 61) refl in
      (cut_by 0 (omega arith) t (fact (narrow_signed 0) g (row.meets 0) 17) (fact told g within) (line row (item_at items 58) (meets 58) refl) (line row (item_at items 59) (meets 59) refl) (nothing _ _ _ p2) (nothing _ _ _ p3), p2, p3)

  pub cut_minus : Row items x 11 (here (narrow_signed 1)) → AllMeet told g → g 17 * n ≡ 65536 → Cut (digits g 65535 65535) n
  cut_minus row within t =
      cut_by 65535 (omega arith) t (fact (narrow_signed 1) g (row.meets 0) 17) (fact told g within) (line row (item_at items 58) (meets 58) refl) (line row (item_at items 59) (meets 59) refl) (line row (item_at items 60) (meets 60) refl) (line row (item_at items 61) (meets 61) refl)

pub small_high : (m h2 l3 h3 : ℕ) → m ≤ 65536 → 65536 * m ≤ (h2 + l3) + 65536 * (h3 + 65536)
small_high m h2 l3 h3 s = omega arith

pub small_one : (m h3 : ℕ) → m ≤ 65536 → m ≤ (h3 + 65536) + 4294901760
small_one m h3 s = omega arith

module _ (x : Cells) (n : ℕ) where
  abbrev f : ℕ → ℕ
  f = x.column 0 11

  abbrev own : Digits
  own = digits f (f 4) (f 5)

  pub sll0 : Row items x 11 (here (known 0 0 0 0)) → Cut own n → Results x (whole own * f 17 % 18446744073709551616)
  sll0 row c = left0 own n c _ _ (amount row clo refl) (amount row chi refl)

  pub sll1 : Row items x 11 (here (known 0 0 0 1)) → Cut own n → Results x (whole own * (65536 * f 17) % 18446744073709551616)
  sll1 row c = left1 own n c _ _ (amount row clo refl) (amount row chi refl)

  pub sll2 : Row items x 11 (here (known 0 0 0 2)) → Cut own n → Results x (whole own * (4294967296 * f 17) % 18446744073709551616)
  sll2 row c = left2 own n c _ _ (amount row clo refl) (amount row chi refl)

  pub sll3 : Row items x 11 (here (known 0 0 0 3)) → Cut own n → Results x (whole own * (281474976710656 * f 17) % 18446744073709551616)
  sll3 row c = left3 own n c _ _ (amount row clo refl) (amount row chi refl)

  pub srl0 : Row items x 11 (here (known 1 0 0 0)) → Cut own n → Results x (whole own / n)
  srl0 row c = right0 own n c _ _ (amount row clo refl) (amount row chi refl)

  pub srl1 : Row items x 11 (here (known 1 0 0 1)) → Cut own n → Results x (whole own / n / 65536)
  srl1 row c = right1 own n c _ _ (amount row clo refl) (amount row chi refl)

  pub srl2 : Row items x 11 (here (known 1 0 0 2)) → Cut own n → Results x (whole own / n / 4294967296)
  srl2 row c = right2 own n c _ _ (amount row clo refl) (amount row chi refl)

  pub srl3 : Row items x 11 (here (known 1 0 0 3)) → Cut own n → Results x (whole own / n / 281474976710656)
  srl3 row c = right3 own n c _ _ (amount row clo refl) (amount row chi refl)

  -- SRA of what isn't negative, and of what is
  pub plus0 : Row items x 11 (here (with_sign 0 1 1 0 0)) → Cut own n → Results x (whole own / n)
  plus0 row c = right0 own n c _ _ (amount row clo refl) (amount row chi refl)

  pub plus1 : Row items x 11 (here (with_sign 0 1 1 0 1)) → Cut own n → Results x (whole own / n / 65536)
  plus1 row c = right1 own n c _ _ (amount row clo refl) (amount row chi refl)

  pub plus2 : Row items x 11 (here (with_sign 0 1 1 0 2)) → Cut own n → Results x (whole own / n / 4294967296)
  plus2 row c = right2 own n c _ _ (amount row clo refl) (amount row chi refl)

  pub plus3 : Row items x 11 (here (with_sign 0 1 1 0 3)) → Cut own n → Results x (whole own / n / 281474976710656)
  plus3 row c = right3 own n c _ _ (amount row clo refl) (amount row chi refl)

  module _ (b : ℕ) (e : b + suc (whole own) ≡ 18446744073709551616) where
    pub minus0 : Row items x 11 (here (with_sign 1 1 1 0 0)) → Cut own n → Results x (18446744073709551616 - suc (b / n))
    minus0 row c = copied0 own n c _ _ b e (amount row clo refl) (number row chi refl (small_high _ _ _ _ c.small))

    pub minus1 : Row items x 11 (here (with_sign 1 1 1 0 1)) → Cut own n → Results x (18446744073709551616 - suc (b / n / 65536))
    minus1 row c = copied1 own n c _ _ b e (amount row clo refl) (number row chi refl (small_one _ _ c.small))

    pub minus2 : Row items x 11 (here (with_sign 1 1 1 0 2)) → Cut own n → Results x (18446744073709551616 - suc (b / n / 4294967296))
    minus2 row c = copied2 own n c _ _ b e (number row clo refl (small_high _ _ _ _ c.small)) (amount row chi refl)

    pub minus3 : Row items x 11 (here (with_sign 1 1 1 0 3)) → Cut own n → Results x (18446744073709551616 - suc (b / n / 281474976710656))
    minus3 row c = copied3 own n c _ _ b e (number row clo refl (small_one _ _ c.small)) (amount row chi refl)

-- The shifts on 32 bits.
no_low : (lo r : ℕ) → lo ≡ 65536 * r → lo ≡ 0 + 65536 * r
no_low lo r e = omega arith

low_of : (q v : ℕ) → q ≡ v → v < 4294967296 → q % 4294967296 ≡ v
low_of q v e h = omega arith

digit : (a b m : ℕ) → a < m → b + m ≤ 65536 → a + b ≤ 65535
digit a b m h k = omega arith

digit' : (a b m : ℕ) → a < m → b + m ≤ 65536 → b + a ≤ 65535
digit' a b m h k = omega arith

joined : (a b : ℕ) → a ≤ 65535 → b ≤ 65535 → a + 65536 * b < 4294967296
joined a b h k = omega arith

-- what is known of the result's sign
pub record Signs (x : Cells) : Type 0 where
  pub rest : x.column 0 11 29 ≤ 32767
  pub sign : x.column 0 11 28 ≤ 1

module _ (x : Cells) (n : ℕ) (meets : Meets x) (s : Signs x) where
  abbrev h : ℕ → ℕ
  h = x.column 0 11

  abbrev low : ℕ → Digits
  low e = digits h e e

  pub sllw0 : Row items x 11 (here (known 0 0 1 0)) → Cut (low 0) n → Results x (word (half (low 0) * h 17))
  sllw0 row c = word_limbs _ _ _ (h 24) (h 25 + h 20) _ _ (low_left0 (low 0) n c) (amount row clo refl) (omega (arith, c.first)) (digit' _ _ _ c.first.high c.second.low) (line row (item_at items 62) (meets 62) refl) s.rest s.sign (amount row chi refl)

  pub sllw1 : Row items x 11 (here (known 0 0 1 1)) → Cut (low 0) n → Results x (word (half (low 0) * (65536 * h 17)))
  sllw1 row c = word_limbs _ _ _ 0 (h 24) _ _ (low_left1 (low 0) n c) (no_low _ _ (amount row clo refl)) (omega arith) (omega (arith, c.first)) (line row (item_at items 62) (meets 62) refl) s.rest s.sign (amount row chi refl)

  module _ (none : 0 ≡ 65536 * h 22 + h 26) (none' : 0 ≡ 65536 * h 23 + h 27) where
    pub srlw0 : Row items x 11 (here (known 1 0 1 0)) → Cut (low 0) n → Results x (word (half (low 0) / n))
    srlw0 row c = word_limbs _ _ _ (h 20 + h 25) (h 21 + h 26) _ _ (low_of _ _ (low_right0 (low 0) n c none none') (joined _ _ (digit _ _ _ c.first.high c.second.low) (digit _ _ _ c.second.high c.third.low))) (amount row clo refl) (digit _ _ _ c.first.high c.second.low) (digit _ _ _ c.second.high c.third.low) (line row (item_at items 62) (meets 62) refl) s.rest s.sign (amount row chi refl)

    pub srlw1 : Row items x 11 (here (known 1 0 1 1)) → Cut (low 0) n → Results x (word (half (low 0) / n / 65536))
    srlw1 row c = word_limbs _ _ _ (h 21 + h 26) (h 22 + h 27) _ _ (low_of _ _ (low_right1 (low 0) n c none none') (joined _ _ (digit _ _ _ c.second.high c.third.low) (digit _ _ _ c.third.high c.fourth.low))) (amount row clo refl) (digit _ _ _ c.second.high c.third.low) (digit _ _ _ c.third.high c.fourth.low) (line row (item_at items 62) (meets 62) refl) s.rest s.sign (amount row chi refl)

    -- SRAW of what isn't negative
    pub plusw0 : Row items x 11 (here (with_sign 0 1 1 1 0)) → Cut (low 0) n → half (low 0) < 2147483648 → Results x (half (low 0) / n)
    plusw0 row c l = plus_limbs _ _ _ (lt_of_le_of_lt (div-le_self _ n) l) (word_limbs _ _ _ (h 20 + h 25) (h 21 + h 26) _ _ (low_of _ _ (low_right0 (low 0) n c none none') (joined _ _ (digit _ _ _ c.first.high c.second.low) (digit _ _ _ c.second.high c.third.low))) (amount row clo refl) (digit _ _ _ c.first.high c.second.low) (digit _ _ _ c.second.high c.third.low) (line row (item_at items 62) (meets 62) refl) s.rest s.sign (amount row chi refl))

    pub plusw1 : Row items x 11 (here (with_sign 0 1 1 1 1)) → Cut (low 0) n → half (low 0) < 2147483648 → Results x (half (low 0) / n / 65536)
    plusw1 row c l = plus_limbs _ _ _ (lt_of_le_of_lt (le_trans (div-le_self _ 65536) (div-le_self _ n)) l) (word_limbs _ _ _ (h 21 + h 26) (h 22 + h 27) _ _ (low_of _ _ (low_right1 (low 0) n c none none') (joined _ _ (digit _ _ _ c.second.high c.third.low) (digit _ _ _ c.third.high c.fourth.low))) (amount row clo refl) (digit _ _ _ c.second.high c.third.low) (digit _ _ _ c.third.high c.fourth.low) (line row (item_at items 62) (meets 62) refl) s.rest s.sign (amount row chi refl))

  -- SRAW of what is negative
  module _ (sign : 65535 * h 17 ≡ 65536 * h 22 + h 26) (sign' : 65535 * h 17 ≡ 65536 * h 23 + h 27) (b : ℕ) (e : b + suc (half (low 65535)) ≡ 4294967296) (l : b < 2147483648) where
    pub minusw0 : Row items x 11 (here (with_sign 1 1 1 1 0)) → Cut (low 65535) n → Results x (18446744073709551616 - suc (b / n))
    minusw0 row c = minus_limbs _ _ _ (h 20 + h 25) (h 21 + h 26) _ _ (lt_of_le_of_lt (div-le_self _ n) l) (low_copied0 (low 65535) n c sign sign' b e) (amount row clo refl) (digit _ _ _ c.first.high c.second.low) (line row (item_at items 62) (meets 62) refl) s.rest s.sign (amount row chi refl)

    pub minusw1 : Row items x 11 (here (with_sign 1 1 1 1 1)) → Cut (low 65535) n → Results x (18446744073709551616 - suc (b / n / 65536))
    minusw1 row c = minus_limbs _ _ _ (h 21 + h 26) (h 22 + h 27) _ _ (lt_of_le_of_lt (le_trans (div-le_self _ 65536) (div-le_self _ n)) l) (low_copied1 (low 65535) n c sign sign' b e) (amount row clo refl) (digit _ _ _ c.second.high c.third.low) (line row (item_at items 62) (meets 62) refl) s.rest s.sign (amount row chi refl)
