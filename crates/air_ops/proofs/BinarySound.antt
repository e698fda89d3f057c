-- A selected row of Binary is an operation: one of fifteen, by the flag that is set.
use Rattle.std.proofs.Common.{ℕ, zero, suc, ◌+◌, ◌*◌, ◌%◌, ◌/◌, ◌^◌, ◌<◌, ◌≤◌, ◌≡◌, ◌≢◌, ◌⊎◌, inl, inr, Bool, true, false, cond, eqb, bit_and, map, List, [], ◌∷◌, ◌++◌, refl, ap, subst, sym, ◌∙◌, arith}
use Rattle.std.specs.Prelude.{bit_or, bit_xor}
use Rattle.std.proofs.lemmas.Nat.{and_le_l, or_lt, xor_lt}
use Rattle.std.proofs.lemmas.Bool.{cases_eq}
use Rattle.pil_ast.specs.Term.{Term, Namespace, item_at}
use Rattle.pil_ast.specs.Columns.{Columns}
use Rattle.pil_ast.specs.Value.{around, value}
use Rattle.pil_ast.specs.Holds.{tuple}
use Rattle.pil_exact.proofs.Row.{is, AllMeet, Row, knowing, here, line, amount, number, found, MeetsFound}
use Rattle.pil_exact.proofs.Flags.{flags, Each, each}
use Rattle.air_ops.proofs.Limbwise.{joined, low_limb, high_limb, joined_fits, scaled_sum, sum_is, difference, below_is, below_signed, and_joined, or_joined, xor_joined, and_bytes, or_limb, xor_limb, word_is, low_sum, low_difference, top_bit, same_numbers, other_numbers, no_byte, some_byte}
use Rattle.air_ops.proofs.BinarySelected.{bytes, halves, known, says, entry, within, row, hot, alo_is, ahi_is, blo_is, bhi_is}
use Rattle.rv_word.specs.declared.instr.OpNo.{OpNo}
use Rattle.rv_word.specs.declared.instr.OpNo.TheVariants as ops
use Rattle.rv_word.specs.Numbers.{op_number}
use Rattle.rv_model.specs.Op.{value_of, flag_of}
use Rattle.zk_layout.specs.Air.{air_of}
use Rattle.zk_layout.specs.declared.air.Air.TheVariants as airs
use Rattle.machine_text.specs.Binary.{items, op, clo, chi, flag, operation}
use Rattle.step_rows.specs.Words.{one_if}
use Rattle.step_rows.specs.Tuples.{op_tuple, IsOperationOf}
use Rattle.air_ops.specs.Tables.{Meets}
use Rattle.air_ops.specs.Binary.{HasBinary, IsSound}

limb : (x0 x1 x2 x3 : ℕ) → x0 ≤ 255 → x1 ≤ 255 → x2 ≤ 255 → x3 ≤ 255 → x0 + 256 * x1 + 65536 * x2 + 16777216 * x3 < 4294967296
limb x0 x1 x2 x3 a b c d = omega arith

half : (x y : ℕ) → x ≤ 65535 → y ≤ 65535 → x + 65536 * y < 4294967296
half x y a b = omega arith

below_K : (x : ℕ) → x ≤ 1 → x < 4294967296
below_K x h = omega arith

signs_below : (s : ℕ) → s ≤ 1 → s * 4294967295 < 4294967296
signs_below s h = omega arith

at_least : (s n : ℕ) → s ≡ 1 + n → 1 ≤ s
at_least s n h = omega arith

bit : (x : ℕ) → x ≤ 1 → (x ≡ 0) ⊎ (x ≡ 1)
bit x h = elim (cases_eq x 0) [ inl z ↦ inl z | inr z ↦ inr (set x h z) ]
  where
    set : (x : ℕ) → x ≤ 1 → (x ≡ 0 → ⊥) → x ≡ 1
    set x h z = omega arith

eight : (a b c d e f g h a' b' c' d' e' f' g' h' : ℕ) → a ≡ a' → b ≡ b' → c ≡ c' → d ≡ d' → e ≡ e' → f ≡ f' → g ≡ g' → h ≡ h' → a ∷ b ∷ c ∷ d ∷ e ∷ f ∷ g ∷ h ∷ [] ≡ a' ∷ b' ∷ c' ∷ d' ∷ e' ∷ f' ∷ g' ∷ h' ∷ []
eight a b c d e f g h a' b' c' d' e' f' g' h' p1 p2 p3 p4 p5 p6 p7 p8 = cc

limb_of : (f : ℕ → ℕ) (x y z : ℕ) → x ≡ y → f y ≡ z → f x ≡ z
limb_of f x y z e h = ap f e ∙ h

-- the operation o on two numbers given by limbs
made : (o : OpNo) (al ah bl bh cl ch fl : ℕ) → al < 4294967296 → bl < 4294967296 → cl < 4294967296 → value_of o (joined al ah) (joined bl bh) ≡ joined cl ch → one_if (flag_of o (joined al ah) (joined bl bh)) ≡ fl → op_number o ∷ al ∷ ah ∷ bl ∷ bh ∷ cl ∷ ch ∷ fl ∷ [] ≡ op_tuple o (joined al ah) (joined bl bh)
made o al ah bl bh cl ch fl l1 l3 l5 e f =
    eight _ _ _ _ _ _ _ _ _ _ _ _ _ _ _ _ refl (sym (low_limb al ah l1)) (sym (high_limb al ah l1)) (sym (low_limb bl bh l3)) (sym (high_limb bl bh l3)) (sym (limb_of (λ v. v % 2 ^ 32) _ _ cl e (low_limb cl ch l5))) (sym (limb_of (λ v. v / 2 ^ 32) _ _ ch e (high_limb cl ch l5))) (sym f)

none_below : 0 < 4294967296
none_below = omega arith

alone : (x y : ℕ) → x ≡ y → x ≡ joined y 0
alone x y h = omega arith

sign_at : (x s s' r : ℕ) → x ≡ 128 * s + r → s ≡ s' → x ≡ 128 * s' + r
sign_at x s s' r e h = omega arith

either : (x s t v k : ℕ) → (s ≡ t → x ≡ k) → (s ≢ t → x ≡ s) → (s ≡ t → v ≡ k) → (s ≢ t → v ≡ s) → x ≡ v
either x s t v k a b c d = elim (cases_eq s t) [ inl e ↦ a e ∙ sym (c e) | inr n ↦ b n ∙ sym (d n) ]

bit_below : (t : Bool) (v : ℕ) → v ≡ cond t 1 0 → v < 4294967296
bit_below true v e = omega arith
bit_below false v e = omega arith

smaller : (x y : ℕ) → x ≤ y → y < 4294967296 → x < 4294967296
smaller x y h k = omega arith

under : (x n s : ℕ) → x + n ≡ s → n ≤ s
under x n s h = omega arith

alike : (x y n s : ℕ) → x + n ≡ s → y + n ≡ s → x ≡ y
alike x y n s h k = omega arith

sign_of : (z0 z1 s r : ℕ) → z1 ≡ 32768 * s + r → z0 ≤ 65535 → r ≤ 32767 → (z0 + 65536 * z1 ≡ 2147483648 * s + (z0 + 65536 * r)) × (z0 + 65536 * r < 2147483648)
sign_of z0 z1 s r e a b = omega arith

module _ (ns : List Namespace) (c : Columns) (i r : ℕ) (has : HasBinary ns c) (meets : Meets ns c i r items) (on : c.at 10 i 0 r ≢ 0) where
  abbrev f : ℕ → ℕ
  f k = c.at 10 i k r

  abbrev val : Term → ℕ
  val e = value items (around ns c 10 i r) e

  abbrev al : ℕ
  al = bytes f 16

  abbrev ah : ℕ
  ah = bytes f 20

  abbrev bl : ℕ
  bl = bytes f 24

  abbrev bh : ℕ
  bh = bytes f 28

  abbrev zl : ℕ
  zl = halves f 40

  abbrev zh : ℕ
  zh = halves f 42

  -- the row has the tuple of the operation o on its operands
  abbrev pub IsOp : OpNo → Type 0
  IsOp o = (value_of o (joined al ah) (joined bl bh) < 2 ^ 64) × (map (value items (around ns c 10 i r)) operation.terms ≡ op_tuple o (joined al ah) (joined bl bh))

  -- what is known of the column k, and what the line of item k says
  w : (k : ℕ) → MeetsFound (f k) (found known k)
  w = within ns c i r has meets on

  lal : al < 4294967296
  lal = limb _ _ _ _ (w 16) (w 17) (w 18) (w 19)

  lah : ah < 4294967296
  lah = limb _ _ _ _ (w 20) (w 21) (w 22) (w 23)

  lbl : bl < 4294967296
  lbl = limb _ _ _ _ (w 24) (w 25) (w 26) (w 27)

  lbh : bh < 4294967296
  lbh = limb _ _ _ _ (w 28) (w 29) (w 30) (w 31)

  lzl : zl < 4294967296
  lzl = half _ _ (w 40) (w 41)

  lzh : zh < 4294967296
  lzh = half _ _ (w 42) (w 43)

  done : (o : OpNo) (cl ch fl : ℕ) → val op ≡ op_number o → val clo ≡ cl → val chi ≡ ch → val flag ≡ fl → cl < 4294967296 → ch < 4294967296 → value_of o (joined al ah) (joined bl bh) ≡ joined cl ch → one_if (flag_of o (joined al ah) (joined bl bh)) ≡ fl → IsOp o
  done o cl ch fl e1 e2 e3 e4 l5 l6 e5 e6 =
      (subst (λ v. v < 2 ^ 64) (sym e5) (joined_fits cl ch l5 l6), eight _ _ _ _ _ _ _ _ _ _ _ _ _ _ _ _ e1 (alo_is ns c i r has meets on) (ahi_is ns c i r has meets on) (blo_is ns c i r has meets on) (bhi_is ns c i r has meets on) e2 e3 e4 ∙ made o al ah bl bh cl ch fl lal lbl l5 e5 e6)

  -- the row where the k-th flag is set
  rowed : (k : ℕ) → AllMeet (flags k 1 15) f → Row items (around ns c 10 i r) 10 (here (flags k 1 15 ++ known))
  rowed k h = knowing (flags k 1 15) h (row ns c i r has meets on)

  -- and a bit of it is known
  with_bit : (k j v : ℕ) → AllMeet (flags k 1 15) f → f j ≡ v → Row items (around ns c 10 i r) 10 (here ((j, is v) ∷ (flags k 1 15 ++ known)))
  with_bit k j v h e = knowing ((j, is v) ∷ []) (e, tt) (rowed k h)

  pub add_is : AllMeet (flags 1 1 15) f → IsOp ops.Add
  unfolding value_of flag_of op_number
  add_is h =
      let r' = rowed 1 h in
      let lo : al + bl ≡ zl + 4294967296 * (f 44 + f 46) = line r' (item_at items 86) (says ns c i r has meets 86) refl in
      let hi : ah + bh + f 44 + f 46 ≡ zh + 4294967296 * (f 45 + f 47) = line r' (item_at items 87) (says ns c i r has meets 87) refl in
      done ops.Add zl zh 0 (amount r' op refl) (amount r' clo refl) (amount r' chi refl) (amount r' flag refl) lzl lzh (sum_is al ah bl bh zl zh (f 44) (f 46) (f 45) (f 47) lo hi lzl lzh) refl

  pub sub_is : AllMeet (flags 2 1 15) f → IsOp ops.Sub
  unfolding value_of flag_of op_number
  sub_is h =
      let r' = rowed 2 h in
      let lo : bl + zl ≡ al + 4294967296 * f 44 = line r' (item_at items 86) (says ns c i r has meets 86) refl in
      let hi : bh + zh + f 44 ≡ ah + 4294967296 * f 45 = line r' (item_at items 87) (says ns c i r has meets 87) refl in
      done ops.Sub zl zh 0 (amount r' op refl) (amount r' clo refl) (amount r' chi refl) (amount r' flag refl) lzl lzh (difference al ah bl bh zl zh (f 44) (f 45) lo hi lal lah lbl lbh lzl lzh (w 45)) refl

  pub sh1add_is : AllMeet (flags 11 1 15) f → IsOp ops.Sh1add
  unfolding value_of flag_of op_number
  sh1add_is h =
      let r' = rowed 11 h in
      let lo : 2 * al + bl ≡ zl + 4294967296 * (f 44 + f 46) = line r' (item_at items 86) (says ns c i r has meets 86) refl in
      let hi : 2 * ah + bh + f 44 + f 46 ≡ zh + 4294967296 * (f 45 + f 47) = line r' (item_at items 87) (says ns c i r has meets 87) refl in
      done ops.Sh1add zl zh 0 (amount r' op refl) (amount r' clo refl) (amount r' chi refl) (amount r' flag refl) lzl lzh (scaled_sum 2 al ah bl bh zl zh (f 44) (f 46) (f 45) (f 47) lo hi lzl lzh) refl

  pub sh2add_is : AllMeet (flags 12 1 15) f → IsOp ops.Sh2add
  unfolding value_of flag_of op_number
  sh2add_is h =
      let r' = rowed 12 h in
      let lo : 4 * al + bl ≡ zl + 4294967296 * (f 44 + f 46) = line r' (item_at items 86) (says ns c i r has meets 86) refl in
      let hi : 4 * ah + bh + f 44 + f 46 ≡ zh + 4294967296 * (f 45 + f 47) = line r' (item_at items 87) (says ns c i r has meets 87) refl in
      done ops.Sh2add zl zh 0 (amount r' op refl) (amount r' clo refl) (amount r' chi refl) (amount r' flag refl) lzl lzh (scaled_sum 4 al ah bl bh zl zh (f 44) (f 46) (f 45) (f 47) lo hi lzl lzh) refl

  pub sh3add_is : AllMeet (flags 13 1 15) f → IsOp ops.Sh3add
  unfolding value_of flag_of op_number
  sh3add_is h =
      let r' = rowed 13 h in
      let lo : 8 * al + bl ≡ zl + 4294967296 * (f 44 + f 46) = line r' (item_at items 86) (says ns c i r has meets 86) refl in
      let hi : 8 * ah + bh + f 44 + f 46 ≡ zh + 4294967296 * (f 45 + f 47) = line r' (item_at items 87) (says ns c i r has meets 87) refl in
      done ops.Sh3add zl zh 0 (amount r' op refl) (amount r' clo refl) (amount r' chi refl) (amount r' flag refl) lzl lzh (scaled_sum 8 al ah bl bh zl zh (f 44) (f 46) (f 45) (f 47) lo hi lzl lzh) refl

  pub ltu_is : AllMeet (flags 3 1 15) f → IsOp ops.Ltu
  unfolding value_of flag_of op_number
  ltu_is h =
      let r' = rowed 3 h in
      let lo : bl + zl ≡ al + 4294967296 * f 44 = line r' (item_at items 86) (says ns c i r has meets 86) refl in
      let hi : bh + zh + f 44 ≡ ah + 4294967296 * f 45 = line r' (item_at items 87) (says ns c i r has meets 87) refl in
      let t = below_is al ah bl bh zl zh (f 44) (f 45) lo hi lal lah lbl lbh lzl lzh (w 45) in
      done ops.Ltu (f 45) 0 (f 45) (amount r' op refl) (amount r' clo refl) (amount r' chi refl) (amount r' flag refl) (below_K _ (w 45)) none_below (alone _ _ t) t

  -- the signs of the operands, and of the low limb of z
  sign_a : f 23 ≡ 128 * f 48 + f 49
  sign_a = line (row ns c i r has meets on) (item_at items 83) (says ns c i r has meets 83) refl

  sign_b : f 31 ≡ 128 * f 50 + f 51
  sign_b = line (row ns c i r has meets on) (item_at items 84) (says ns c i r has meets 84) refl

  sign_z : f 41 ≡ 32768 * f 52 + f 53
  sign_z = line (row ns c i r has meets on) (item_at items 85) (says ns c i r has meets 85) refl

  -- LT where the signs are known
  lt_with : (s t v : ℕ) → s ≤ 1 → t ≤ 1 → f 48 ≡ s → f 50 ≡ t → AllMeet (flags 4 1 15) f → (s ≡ t → v ≡ f 45) → (s ≢ t → v ≡ s) → v ≤ 1 → val op ≡ 4 → val clo ≡ v → val chi ≡ 0 → val flag ≡ v → IsOp ops.Lt
  unfolding value_of flag_of op_number
  lt_with s t v ls lt es et h same other lv e1 e2 e3 e4 =
      let r' = rowed 4 h in
      let lo : bl + zl ≡ al + 4294967296 * f 44 = line r' (item_at items 86) (says ns c i r has meets 86) refl in
      let hi : bh + zh + f 44 ≡ ah + 4294967296 * f 45 = line r' (item_at items 87) (says ns c i r has meets 87) refl in
      let ta = top_bit (f 20) (f 21) (f 22) (f 23) s (f 49) (sign_at _ _ _ _ sign_a es) (w 20) (w 21) (w 22) (w 49) in
      let tb = top_bit (f 28) (f 29) (f 30) (f 31) t (f 51) (sign_at _ _ _ _ sign_b et) (w 28) (w 29) (w 30) (w 51) in
      let d = below_signed al ah bl bh zl zh (f 44) (f 45) lo hi lal lah lbl lbh lzl lzh (w 45) s t _ _ ta.0 tb.0 ta.1 tb.1 ls lt in
      let e = either _ s t v (f 45) d.0 d.1 same other in
      done ops.Lt v 0 v e1 e2 e3 e4 (below_K _ lv) none_below (alone _ _ e) e

  pub lt_is : AllMeet (flags 4 1 15) f → IsOp ops.Lt
  lt_is h = elim (bit _ (w 48)) [
    | inl a ↦ elim (bit _ (w 50)) [
      | inl b ↦ (let r' = signed_row 0 0 a b h in lt_with 0 0 (f 45) (omega arith) (omega arith) a b h (λ _. refl) (λ n. absurd (n refl)) (w 45) (amount r' op refl) (amount r' clo refl) (amount r' chi refl) (amount r' flag refl))
      | inr b ↦ (let r' = signed_row 0 1 a b h in lt_with 0 1 0 (omega arith) (omega arith) a b h (λ n. absurd (no_one n)) (λ _. refl) (omega arith) (amount r' op refl) (amount r' clo refl) (amount r' chi refl) (amount r' flag refl))
    ]
    | inr a ↦ elim (bit _ (w 50)) [
      | inl b ↦ (let r' = signed_row 1 0 a b h in lt_with 1 0 1 (omega arith) (omega arith) a b h (λ n. absurd (no_one (sym n))) (λ _. refl) (omega arith) (amount r' op refl) (amount r' clo refl) (amount r' chi refl) (amount r' flag refl))
      | inr b ↦ (let r' = signed_row 1 1 a b h in lt_with 1 1 (f 45) (omega arith) (omega arith) a b h (λ _. refl) (λ n. absurd (n refl)) (w 45) (amount r' op refl) (amount r' clo refl) (amount r' chi refl) (amount r' flag refl))
    ]
  ]
    where
      no_one : 0 ≡ suc 0 → ⊥
      no_one e = omega arith

      signed_row : (s t : ℕ) → f 48 ≡ s → f 50 ≡ t → AllMeet (flags 4 1 15) f → Row items (around ns c 10 i r) 10 (here ((48, is s) ∷ (50, is t) ∷ (flags 4 1 15 ++ known)))
      signed_row s t a b h = knowing ((48, is s) ∷ (50, is t) ∷ []) (a, (b, tt)) (rowed 4 h)

  eq_with : (v : ℕ) (t : Bool) → v ≡ cond t 1 0 → eqb (joined al ah) (joined bl bh) ≡ t → val op ≡ 5 → val clo ≡ v → val chi ≡ 0 → val flag ≡ v → IsOp ops.Eq
  unfolding value_of flag_of op_number
  eq_with v t l e e1 e2 e3 e4 =
      let d : cond (eqb (joined al ah) (joined bl bh)) 1 0 ≡ v = ap (λ t. cond t 1 0) e ∙ sym l in
      done ops.Eq v 0 v e1 e2 e3 e4 (bit_below t v l) none_below (alone _ _ d) d

  pub eq_is : AllMeet (flags 5 1 15) f → IsOp ops.Eq
  eq_is h =
      let r' = rowed 5 h in
      let lo : bl + zl ≡ al + 4294967296 * f 44 = line r' (item_at items 86) (says ns c i r has meets 86) refl in
      let hi : bh + zh + f 44 ≡ ah + 4294967296 * f 45 = line r' (item_at items 87) (says ns c i r has meets 87) refl in
      elim (bit _ (w 54)) [
        | inl z ↦ (
            let r0 = with_bit 5 54 0 h z in
            let s : f 40 + f 41 + f 42 + f 43 ≡ 1 + halves f 55 = line r0 (item_at items 89) (says ns c i r has meets 89) refl in
            eq_with 0 false refl (other_numbers al ah bl bh (f 40) (f 41) (f 42) (f 43) (f 44) (f 45) lo hi (at_least _ _ s) (w 40) (w 41) (w 42) (w 43) lal lah lbl lbh) (amount r0 op refl) (amount r0 clo refl) (amount r0 chi refl) (amount r0 flag refl))
        | inr z ↦ (
            let r1 = with_bit 5 54 1 h z in
            let s : f 40 + f 41 + f 42 + f 43 ≡ 0 = line r1 (item_at items 88) (says ns c i r has meets 88) refl in
            eq_with 1 true refl (same_numbers al ah bl bh (f 40) (f 41) (f 42) (f 43) (f 44) (f 45) lo hi s lal lah lbl lbh) (amount r1 op refl) (amount r1 clo refl) (amount r1 chi refl) (amount r1 flag refl))
      ]

  low_and : bytes f 32 ≡ bit_and al bl
  low_and = and_bytes _ _ _ _ _ _ _ _ _ _ _ _ (entry ns c i r has meets on 55) (entry ns c i r has meets on 56) (entry ns c i r has meets on 57) (entry ns c i r has meets on 58)

  high_and : bytes f 36 ≡ bit_and ah bh
  high_and = and_bytes _ _ _ _ _ _ _ _ _ _ _ _ (entry ns c i r has meets on 59) (entry ns c i r has meets on 60) (entry ns c i r has meets on 61) (entry ns c i r has meets on 62)

  pub and_is : AllMeet (flags 6 1 15) f → IsOp ops.And
  unfolding value_of flag_of op_number
  and_is h =
      let r' = rowed 6 h in
      done ops.And (bit_and al bl) (bit_and ah bh) 0 (amount r' op refl) (amount r' clo refl ∙ low_and) (amount r' chi refl ∙ high_and) (amount r' flag refl) (smaller _ _ (and_le_l al bl) lal) (smaller _ _ (and_le_l ah bh) lah) (and_joined al ah bl bh lal lbl) refl

  pub or_is : AllMeet (flags 7 1 15) f → IsOp ops.Or
  unfolding value_of flag_of op_number
  or_is h =
      let r' = rowed 7 h in
      let lo : val clo + bytes f 32 ≡ al + bl = number r' clo refl (under _ _ _ (or_limb al bl _ low_and)) in
      let hi : val chi + bytes f 36 ≡ ah + bh = number r' chi refl (under _ _ _ (or_limb ah bh _ high_and)) in
      done ops.Or (bit_or al bl) (bit_or ah bh) 0 (amount r' op refl) (alike _ _ _ _ lo (or_limb al bl _ low_and)) (alike _ _ _ _ hi (or_limb ah bh _ high_and)) (amount r' flag refl) (or_lt 32 al bl lal lbl) (or_lt 32 ah bh lah lbh) (or_joined al ah bl bh lal lbl) refl

  pub xor_is : AllMeet (flags 8 1 15) f → IsOp ops.Xor
  unfolding value_of flag_of op_number
  xor_is h =
      let r' = rowed 8 h in
      let lo : val clo + 2 * bytes f 32 ≡ al + bl = number r' clo refl (under _ _ _ (xor_limb al bl _ low_and)) in
      let hi : val chi + 2 * bytes f 36 ≡ ah + bh = number r' chi refl (under _ _ _ (xor_limb ah bh _ high_and)) in
      done ops.Xor (bit_xor al bl) (bit_xor ah bh) 0 (amount r' op refl) (alike _ _ _ _ lo (xor_limb al bl _ low_and)) (alike _ _ _ _ hi (xor_limb ah bh _ high_and)) (amount r' flag refl) (xor_lt 32 al bl lal lbl) (xor_lt 32 ah bh lah lbh) (xor_joined al ah bl bh lal lbl) refl

  -- the low limb of z with its sign
  low_sign : (zl ≡ 2147483648 * f 52 + (f 40 + 65536 * f 53)) × (f 40 + 65536 * f 53 < 2147483648)
  low_sign = sign_of (f 40) (f 41) (f 52) (f 53) sign_z (w 40) (w 53)

  pub addw_is : AllMeet (flags 9 1 15) f → IsOp ops.Addw
  unfolding value_of flag_of op_number
  addw_is h =
      let r' = rowed 9 h in
      let lo : al + bl ≡ zl + 4294967296 * (f 44 + f 46) = line r' (item_at items 86) (says ns c i r has meets 86) refl in
      done ops.Addw zl (f 52 * 4294967295) 0 (amount r' op refl) (amount r' clo refl) (amount r' chi refl) (amount r' flag refl) lzl (signs_below _ (w 52)) (word_is _ zl (f 52) _ (low_sum al ah bl bh zl _ lo lzl) low_sign.0 low_sign.1 (w 52)) refl

  pub subw_is : AllMeet (flags 10 1 15) f → IsOp ops.Subw
  unfolding value_of flag_of op_number
  subw_is h =
      let r' = rowed 10 h in
      let lo : bl + zl ≡ al + 4294967296 * f 44 = line r' (item_at items 86) (says ns c i r has meets 86) refl in
      done ops.Subw zl (f 52 * 4294967295) 0 (amount r' op refl) (amount r' clo refl) (amount r' chi refl) (amount r' flag refl) lzl (signs_below _ (w 52)) (word_is _ zl (f 52) _ (low_difference al ah bl bh zl _ lo lzl lbl lbh) low_sign.0 low_sign.1 (w 52)) refl

  pub czeqz_is : AllMeet (flags 14 1 15) f → IsOp ops.Czeqz
  unfolding value_of flag_of op_number
  czeqz_is h = elim (bit _ (w 54)) [
    | inl z ↦ (
        let r' = with_bit 14 54 0 h z in
        let s : f 24 + f 25 + f 26 + f 27 + f 28 + f 29 + f 30 + f 31 ≡ 1 + halves f 55 = line r' (item_at items 91) (says ns c i r has meets 91) refl in
        done ops.Czeqz al ah 0 (amount r' op refl) (amount r' clo refl) (amount r' chi refl) (amount r' flag refl) lal lah (ap (λ t. cond t 0 (joined al ah)) (some_byte _ _ _ _ _ _ _ _ _ s)) refl)
    | inr z ↦ (
        let r' = with_bit 14 54 1 h z in
        let s : f 24 + f 25 + f 26 + f 27 + f 28 + f 29 + f 30 + f 31 ≡ 0 = line r' (item_at items 90) (says ns c i r has meets 90) refl in
        done ops.Czeqz 0 0 0 (amount r' op refl) (amount r' clo refl) (amount r' chi refl) (amount r' flag refl) none_below none_below (ap (λ t. cond t 0 (joined al ah)) (no_byte _ _ _ _ _ _ _ _ s)) refl)
  ]

  pub cznez_is : AllMeet (flags 15 1 15) f → IsOp ops.Cznez
  unfolding value_of flag_of op_number
  cznez_is h = elim (bit _ (w 54)) [
    | inl z ↦ (
        let r' = with_bit 15 54 0 h z in
        let s : f 24 + f 25 + f 26 + f 27 + f 28 + f 29 + f 30 + f 31 ≡ 1 + halves f 55 = line r' (item_at items 91) (says ns c i r has meets 91) refl in
        done ops.Cznez 0 0 0 (amount r' op refl) (amount r' clo refl) (amount r' chi refl) (amount r' flag refl) none_below none_below (ap (λ t. cond t (joined al ah) 0) (some_byte _ _ _ _ _ _ _ _ _ s)) refl)
    | inr z ↦ (
        let r' = with_bit 15 54 1 h z in
        let s : f 24 + f 25 + f 26 + f 27 + f 28 + f 29 + f 30 + f 31 ≡ 0 = line r' (item_at items 90) (says ns c i r has meets 90) refl in
        done ops.Cznez al ah 0 (amount r' op refl) (amount r' clo refl) (amount r' chi refl) (amount r' flag refl) lal lah (ap (λ t. cond t (joined al ah) 0) (no_byte _ _ _ _ _ _ _ _ s)) refl)
  ]

  pub tuple_is : tuple ns c 10 i r operation.terms ≡ map (value items (around ns c 10 i r)) operation.terms
  tuple_is = ap (λ n. map (value n.items (around ns c 10 i r)) operation.terms) has.stands

  -- the tuple is that of one of the operations
  abbrev Tells : Type 0
  Tells = IsOperationOf airs.Binary (tuple ns c 10 i r operation.terms)

  of_op : (o : OpNo) (k : ℕ) → air_of o ≡ airs.Binary → (AllMeet (flags k 1 15) f → IsOp o) → AllMeet (flags k 1 15) f → Tells
  of_op o k e law h = let v = law h in (record { o = o; a = joined al ah; b = joined bl bh; a_fits = joined_fits al ah lal lah; b_fits = joined_fits bl bh lbl lbh; value_fits = v.0; is = tuple_is ∙ v.1 }, e)

  each_is : Each (λ j. AllMeet (flags (suc j) 1 15) f → Tells) 15
  unfolding air_of op_number
  each_is = (of_op ops.Add 1 refl add_is, (of_op ops.Sub 2 refl sub_is, (of_op ops.Ltu 3 refl ltu_is, (of_op ops.Lt 4 refl lt_is, (of_op ops.Eq 5 refl eq_is, (of_op ops.And 6 refl and_is, (of_op ops.Or 7 refl or_is, (of_op ops.Xor 8 refl xor_is, (of_op ops.Addw 9 refl addw_is, (of_op ops.Subw 10 refl subw_is, (of_op ops.Sh1add 11 refl sh1add_is, (of_op ops.Sh2add 12 refl sh2add_is, (of_op ops.Sh3add 13 refl sh3add_is, (of_op ops.Czeqz 14 refl czeqz_is, (of_op ops.Cznez 15 refl cznez_is, tt)))))))))))))))

  one_is : (k : ℕ) → 1 ≤ k → k < 16 → AllMeet (flags k 1 15) f → Tells
  one_is zero l m h = absurd (omega arith)
  one_is (suc j) l m h = each (λ j. AllMeet (flags (suc j) 1 15) f → Tells) 15 each_is j (omega arith) h

pub binary_sound : IsSound
binary_sound ns c i r has meets on =
    let k = hot ns c i r has meets on in
    one_is ns c i r has meets on k.0 k.1 k.2 k.3
