-- What is known of the row of a shift.
use Rattle.std.proofs.Common.{ℕ, ◌+◌, ◌*◌, ◌/◌, ◌%◌, ◌^◌, ◌<◌, ◌≤◌, ◌≡◌, ◌==◌, Bool, true, false, cond, nat_lt, ltb, get_or, refl, sym, ◌∙◌, subst, arith}
use Rattle.std.specs.Prelude.{slice_index}
use Rattle.std.proofs.lemmas.Bool.{ltb-true}
use Rattle.std.proofs.lemmas.Nat.{mul-le}
use Rattle.std.proofs.Math.Nat.{div-add-mod}
use Rattle.rv_word.specs.declared.instr.OpNo.TheVariants as ops
use Rattle.rv_model.specs.Op.{value_of}
use Rattle.pil_ast.specs.Columns.{Columns}
use Rattle.pil_exact.proofs.Row.{AllMeet}
use Rattle.step_rows.specs.ShiftRow.{signed, amount}
use Rattle.step_rows.specs.ShiftRow.{numbered_row, top_digit, sign, upper, times_of, high_of}
use Rattle.zk_layout.specs.declared.air.Air.TheVariants as airs
use Rattle.air_ops.proofs.Airs.{operations}
use Rattle.air_ops.proofs.ShiftKnown.{told}
use Rattle.air_ops.proofs.ShiftSound.{factor_small}

half_le : (x v : ℕ) → x ≡ v % 65536 → x ≤ 65535
half_le x v e = omega arith

few_le : (x v : ℕ) → x ≡ v % 1024 → x ≤ 1023
few_le x v e = omega arith

fifteen_le : (x v : ℕ) → x ≡ v % 32768 → x ≤ 32767
fifteen_le x v e = omega arith

bit_le : (x v : ℕ) → x ≡ v % 2 → x ≤ 1
bit_le x v e = omega arith

sign_le : (x d v : ℕ) → x ≡ d / 32768 → d ≡ v % 65536 → x ≤ 1
sign_le x d v e g = omega arith

-- a digit times m, cut at 2^16
pub parts : (d x m k h l : ℕ) → x ≡ d → k ≡ m → h ≡ d * m / 65536 → l ≡ d * m % 65536 → x * k ≡ 65536 * h + l
parts d x m k h l e g eh el = (λ i. e i * g i) ∙ sym (div-add-mod (d * m) 65536) ∙ omega arith

top_is : (n a : ℕ) → (w : ℕ) × (top_digit n a ≡ w % 65536)
top_is n a = by (nat_lt n 3)
  where
    by : (t : Bool) → (w : ℕ) × (cond t (a / 2 ^ 48 % 2 ^ 16) (a / 2 ^ 16 % 2 ^ 16) ≡ w % 65536)
    by true = (a / 281474976710656, refl)
    by false = (a / 65536, refl)

-- row r of instance i is that of the n-th of the shifts
abbrev pub IsRowOf : Columns → ℕ → ℕ → ℕ → ℕ → ℕ → Type 0
IsRowOf c i r n a b = (j : ℕ) → j < 30 → c.at 11 i j r ≡ slice_index (numbered_row n a b (value_of (get_or (operations airs.Shift) n ops.Sll) a b)) j

module _ (c : Columns) (i r n a b : ℕ) (is_row : IsRowOf c i r n a b) where
  abbrev pub f : ℕ → ℕ
  f k = c.at 11 i k r

  abbrev v : ℕ
  v = value_of (get_or (operations airs.Shift) n ops.Sll) a b

  pub at : (j : ℕ) → ltb j 30 ≡ true → f j ≡ slice_index (numbered_row n a b v) j
  at j h = is_row j (ltb-true j 30 h)

  pub honest_told : AllMeet told f
  honest_told =
      let t = top_is n a in
      (one_small _ (at 0 refl), (half_le _ _ (at 2 refl), (half_le _ _ (at 3 refl), (half_le _ _ (at 4 refl), (half_le _ _ (at 5 refl), (half_le _ _ (at 8 refl), (le_more _ (few_le _ _ (at 9 refl)), (sign_le _ _ t.0 (at 18 refl) t.1, (bit_le _ _ (at 28 refl), (le_half _ (fifteen_le _ _ (at 19 refl)), (le_half _ (fifteen_le _ _ (at 29 refl)), (high_small (a % 65536) 20 (at 20 refl) (digit a), (high_small (a / 65536 % 65536) 21 (at 21 refl) (digit (a / 65536)), (high_small (upper n a (a / 4294967296 % 65536)) 22 (at 22 refl) (upper_small _ (digit (a / 4294967296))), (high_small (upper n a (a / 281474976710656 % 65536)) 23 (at 23 refl) (upper_small _ (digit (a / 281474976710656))), (half_le _ _ (at 24 refl), (half_le _ _ (at 25 refl), (half_le _ _ (at 26 refl), (half_le _ _ (at 27 refl), tt)))))))))))))))))))
    where
      one_small : (x : ℕ) → x ≡ 1 → x ≤ 1
      one_small x e = omega arith

      le_more : (x : ℕ) → x ≤ 1023 → x ≤ 65535
      le_more x h = omega arith

      le_half : (x : ℕ) → x ≤ 32767 → x ≤ 65535
      le_half x h = omega arith

      digit : (x : ℕ) → x % 65536 ≤ 65535
      digit x = omega arith

      small_product : (d m : ℕ) → d ≤ 65535 → m ≤ 65536 → d * m / 65536 ≤ 65535
      small_product d m h k = omega (arith, mul-le d m 65535 65536 h k)

      high_small : (d j : ℕ) → f j ≡ high_of d (times_of n b) → d ≤ 65535 → f j ≤ 65535
      high_small d j e h = subst (λ z. z ≤ 65535) (sym e) (small_product d (times_of n b) h (factor_small n (amount n (b % 64))))

      upper_small : (d : ℕ) → d ≤ 65535 → upper n a d ≤ 65535
      upper_small d h = either (nat_lt n 3) d h (sign_small (signed n) (sign n a) (flag_small (n % 3 == 2)) (sign_le (sign n a) (top_digit n a) (top_is n a).0 refl (top_is n a).1))
        where
          flag_small : (t : Bool) → cond t 1 0 ≤ 1
          flag_small true = omega arith
          flag_small false = omega arith

          sign_small : (x y : ℕ) → x ≤ 1 → y ≤ 1 → x * y * 65535 ≤ 65535
          sign_small x y h k = omega (arith, mul-le x y 1 1 h k)

          either : (t : Bool) (d : ℕ) {e : ℕ} → d ≤ 65535 → e ≤ 65535 → cond t d e ≤ 65535
          either true d h k = h
          either false d h k = k

  pub m_small : f 17 ≤ 65536
  m_small = subst (λ z. z ≤ 65536) (sym (at 17 refl)) (factor_small n (amount n (b % 64)))

  -- the lines of the digits
  pub first_line : f 2 * f 17 ≡ 65536 * f 20 + f 24
  first_line = parts (a % 65536) _ (times_of n b) _ _ _ (at 2 refl) (at 17 refl) (at 20 refl) (at 24 refl)

  pub second_line : f 3 * f 17 ≡ 65536 * f 21 + f 25
  second_line = parts (a / 65536 % 65536) _ (times_of n b) _ _ _ (at 3 refl) (at 17 refl) (at 21 refl) (at 25 refl)

  pub third_line : (e : ℕ) → e ≡ upper n a (a / 4294967296 % 65536) → e * f 17 ≡ 65536 * f 22 + f 26
  third_line e g = parts (upper n a (a / 4294967296 % 65536)) e (times_of n b) _ _ _ g (at 17 refl) (at 22 refl) (at 26 refl)

  pub fourth_line : (e : ℕ) → e ≡ upper n a (a / 281474976710656 % 65536) → e * f 17 ≡ 65536 * f 23 + f 27
  fourth_line e g = parts (upper n a (a / 281474976710656 % 65536)) e (times_of n b) _ _ _ g (at 17 refl) (at 23 refl) (at 27 refl)
