-- A selected row of Shift has the tuple of one of its operations.
use Rattle.std.proofs.Common.{ℕ, zero, suc, ◌+◌, ◌-◌, ◌*◌, ◌/◌, ◌%◌, ◌^◌, ◌<◌, ◌≤◌, ◌≡◌, ◌⊎◌, inl, inr, Bool, true, false, cond, List, [], ◌∷◌, map, refl, sym, ap, ◌∙◌, subst, le_of_suc-le-suc, ◌==◌, pow-add, mul_comm, pow_mono, mod-lt, lit<, arith}
use Rattle.std.proofs.lemmas.Nat.{shr-shr}
use Rattle.std.specs.Int.{cast_signed, int_shr, w32, w64}
use Rattle.rv_word.specs.declared.instr.OpNo.{OpNo}
use Rattle.rv_word.specs.declared.instr.OpNo.TheVariants as ops
use Rattle.rv_word.specs.Numbers.{op_number}
use Rattle.rv_model.specs.Op.{value_of, flag_of, word, bits_of}
use Rattle.pil_ast.specs.Term.{num, ◌⊗◌, item_at}
use Rattle.pil_ast.specs.Value.{Cells, value}
use Rattle.pil_exact.proofs.Row.{Fact, is, most, AllMeet, Row, here, line, amount, fact}
use Rattle.air_ops.proofs.Limbs.{Limbs, low_of, high_of, fits_of}
use Rattle.zk_layout.specs.Air.{air_of}
use Rattle.zk_layout.specs.declared.air.Air.TheVariants as airs
use Rattle.step_rows.specs.Words.{one_if}
use Rattle.step_rows.specs.Tuples.{op_tuple, IsOperationOf}
use Rattle.pil_exact.proofs.Flags.{Each, each}
use Rattle.air_ops.proofs.Digits.{Digits, Cut, whole, half}
use Rattle.air_ops.proofs.Twos.{plus, minus}
use Rattle.step_rows.specs.ShiftRow.{right, signed, wide, amount as shift_amount, at_place, factor}
use Rattle.machine_text.specs.Shift.{items, alo, ahi, blo, xr, rr, t, operation}
use Rattle.air_ops.proofs.ShiftKnown.{Asks, told}
use Rattle.air_ops.proofs.ShiftCases as C
use Rattle.air_ops.proofs.ShiftCases.{known, with_sign, digits, Meets, Results, Signs, plain, narrow, narrow_signed}

-- The values of the six operations, where the low bits of b are s.
module _ (a b s : ℕ) where
  pub sll_is : b % 64 ≡ s → value_of ops.Sll a b ≡ a * 2 ^ s % 18446744073709551616
  unfolding value_of
  sll_is e = ap (λ z. a * 2 ^ z % 18446744073709551616) e

  pub srl_is : b % 64 ≡ s → value_of ops.Srl a b ≡ a / 2 ^ s
  unfolding value_of
  srl_is e = ap (λ z. a / 2 ^ z) e

  pub sra_plus : b % 64 ≡ s → a < 9223372036854775808 → value_of ops.Sra a b ≡ a / 2 ^ s
  unfolding value_of
  sra_plus e l = ap (λ z. bits_of (int_shr (cast_signed w64 a) z)) e ∙ ap (λ z. bits_of (int_shr z s)) (plus w64 a l)

  pub sra_minus : b % 64 ≡ s → 9223372036854775808 ≤ a → (n : ℕ) → n + suc a ≡ 18446744073709551616 → value_of ops.Sra a b ≡ 18446744073709551616 - suc (n / 2 ^ s)
  unfolding value_of
  sra_minus e l n h = ap (λ z. bits_of (int_shr (cast_signed w64 a) z)) e ∙ ap (λ z. bits_of (int_shr z s)) (minus w64 a n l (turn a n h))
    where
      turn : (a n : ℕ) → n + suc a ≡ 18446744073709551616 → a + suc n ≡ 18446744073709551616
      turn a n h = omega arith

  module _ (low : ℕ) (is_low : a % 4294967296 ≡ low) (e : b % 32 ≡ s) where
    pub sllw_is : value_of ops.Sllw a b ≡ word (low * 2 ^ s)
    unfolding value_of
    sllw_is = ap (λ z. word (a % 4294967296 * 2 ^ z)) e ∙ ap (λ z. word (z * 2 ^ s)) is_low

    pub srlw_is : value_of ops.Srlw a b ≡ word (low / 2 ^ s)
    unfolding value_of
    srlw_is = ap (λ z. word (a % 4294967296 / 2 ^ z)) e ∙ ap (λ z. word (z / 2 ^ s)) is_low

    pub sraw_plus : low < 2147483648 → value_of ops.Sraw a b ≡ low / 2 ^ s
    unfolding value_of
    sraw_plus l = ap (λ z. bits_of (int_shr (cast_signed w32 (a % 4294967296)) z)) e ∙ ap (λ z. bits_of (int_shr (cast_signed w32 z) s)) is_low ∙ ap (λ z. bits_of (int_shr z s)) (plus w32 low l)

    pub sraw_minus : 2147483648 ≤ low → (n : ℕ) → n + suc low ≡ 4294967296 → value_of ops.Sraw a b ≡ 18446744073709551616 - suc (n / 2 ^ s)
    unfolding value_of
    sraw_minus l n h = ap (λ z. bits_of (int_shr (cast_signed w32 (a % 4294967296)) z)) e ∙ ap (λ z. bits_of (int_shr (cast_signed w32 z) s)) is_low ∙ ap (λ z. bits_of (int_shr z s)) (minus w32 low n l (turn low n h))
      where
        turn : (a n : ℕ) → n + suc a ≡ 4294967296 → a + suc n ≡ 4294967296
        turn a n h = omega arith

-- what is known of a selected row
pub record Selected (x : Cells) : Type 0 where
  pub row : (es : List (ℕ × Fact)) → AllMeet es (x.column 0 11) → Row items x 11 (here es)
  pub meets : Meets x
  pub within : AllMeet told (x.column 0 11)
  pub one : x.column 0 11 0 ≡ 1
  pub asks : Asks (x.column 0 11)
  pub xr : value items x (num 2 ⊗ xr) ≤ 65535
  pub rr : value items x (num 2 ⊗ rr) ≤ 65535
  pub top : value items x (num 64 ⊗ t 1) ≤ 65535

-- powers of two
pub split : (s k : ℕ) → s / 16 ≡ k → 2 ^ s ≡ 2 ^ (16 * k) * 2 ^ (s % 16)
split s k e = ap (λ z. 2 ^ z) (parts s k e) ∙ pow-add 2 (16 * k) (s % 16)
  where
    parts : (s k : ℕ) → s / 16 ≡ k → s ≡ 16 * k + s % 16
    parts s k e = omega arith

pub whole_power : (j : ℕ) → j < 16 → 2 ^ j * 2 ^ (16 - j) ≡ 65536
whole_power j l = sym (pow-add 2 j (16 - j)) ∙ ap (λ z. 2 ^ z) (full j l)
  where
    full : (j : ℕ) → j < 16 → j + (16 - j) ≡ 16
    full j l = omega arith

pub turned_power : (j : ℕ) → j < 16 → 2 ^ (16 - j) * 2 ^ j ≡ 65536
turned_power j l = mul_comm (2 ^ (16 - j)) (2 ^ j) ∙ whole_power j l

-- a number shifted to the right, in one step and in two
pub one_step : (a s : ℕ) → s / 16 ≡ 0 → a / 2 ^ s ≡ a / 2 ^ (s % 16)
one_step a s e = ap (λ z. a / 2 ^ z) (same s e)
  where
    same : (s : ℕ) → s / 16 ≡ 0 → s ≡ s % 16
    same s e = omega arith

pub two_steps : (a s k : ℕ) → s / 16 ≡ k → a / 2 ^ s ≡ a / 2 ^ (s % 16) / 2 ^ (16 * k)
two_steps a s k e = ap (λ z. a / 2 ^ z) (parts s k e) ∙ sym (shr-shr a (s % 16) (16 * k))
  where
    parts : (s k : ℕ) → s / 16 ≡ k → s ≡ s % 16 + 16 * k
    parts s k e = omega arith

over : (k : ℕ) → suc (suc (suc (suc k))) < 4 → ⊥
over k l = omega arith

over' : (k : ℕ) → suc (suc k) < 2 → ⊥
over' k l = omega arith

pub factor_small : (o t : ℕ) → factor o t ≤ 65536
factor_small o t = by (o % 3 == 0)
  where
    by : (b : Bool) → cond b (2 ^ (t % 16)) (2 ^ (16 - t % 16)) ≤ 65536
    by true = pow_mono {i = t % 16} {j = 16} (omega arith)
    by false = pow_mono {i = 16 - t % 16} {j = 16} (omega arith)

module _ (x : Cells) (sel : Selected x) where
  abbrev f : ℕ → ℕ
  f = x.column 0 11

  base : Row items x 11 (here ((0, is 1) ∷ told))
  base = sel.row _ (sel.one, sel.within)

  small : (v : ℕ) → 2 * v ≤ 65535 → v ≤ 32767
  small v h = omega arith

  xr_small : f 19 ≤ 32767
  xr_small = small _ (subst (λ z. z ≤ 65535) (amount base (num 2 ⊗ xr) refl) sel.xr)

  rr_small : f 29 ≤ 32767
  rr_small = small _ (subst (λ z. z ≤ 65535) (amount base (num 2 ⊗ rr) refl) sel.rr)

  top_small : 64 * f 9 ≤ 65535
  top_small = subst (λ z. z ≤ 65535) (amount base (num 64 ⊗ t 1) refl) sel.top

  signs : Signs x
  signs = record { rest = rr_small; sign = fact told f sel.within 28 }

  -- the columns that ShiftTab gives, for a shift by t
  record Shape (rt ar ww t : ℕ) : Type 0 where
    rt_is : f 10 ≡ rt
    ar_is : f 11 ≡ ar
    ww_is : f 12 ≡ ww
    u0 : f 13 ≡ at_place (t / 16) 0
    u1 : f 14 ≡ at_place (t / 16) 1
    u2 : f 15 ≡ at_place (t / 16) 2
    u3 : f 16 ≡ at_place (t / 16) 3
    m : f 17 ≤ 65536

  meets_known : (rt ar ww t k : ℕ) → Shape rt ar ww t → t / 16 ≡ k → AllMeet (known rt ar ww k) f
  meets_known rt ar ww t k h e =
      let at : (j : ℕ) → at_place (t / 16) j ≡ at_place k j = λ j. ap (λ z. at_place z j) e in
      (sel.one, (h.rt_is, (h.ar_is, (h.ww_is, (h.u0 ∙ at 0, (h.u1 ∙ at 1, (h.u2 ∙ at 2, (h.u3 ∙ at 3, (h.m, sel.within)))))))))

  known_row : (rt ar ww t k : ℕ) → Shape rt ar ww t → t / 16 ≡ k → Row items x 11 (here (known rt ar ww k))
  known_row rt ar ww t k h e = sel.row _ (meets_known rt ar ww t k h e)

  signed_row : (sb rt ar ww t k : ℕ) → f 18 ≡ sb → Shape rt ar ww t → t / 16 ≡ k → Row items x 11 (here (with_sign sb rt ar ww k))
  signed_row sb rt ar ww t k b h e = sel.row _ (b, meets_known rt ar ww t k h e)

  plain_row : (rt ar t : ℕ) → Shape rt ar 0 t → Row items x 11 (here plain)
  plain_row rt ar t h = sel.row _ (sel.one, (h.ww_is, (h.m, sel.within)))

  abbrev pub own : Digits
  own = digits f (f 4) (f 5)

  -- SLL
  module _ (s : ℕ) (l : s < 64) (h : Shape 0 0 0 s) (e : f 17 ≡ 2 ^ (s % 16)) where
    abbrev sll_n : ℕ
    sll_n = 2 ^ (16 - s % 16)

    sll_cut : Cut own sll_n
    sll_cut = C.cut_plain x sll_n sel.meets (plain_row 0 0 s h) (subst (λ z. z * sll_n ≡ 65536) (sym e) (whole_power (s % 16) (mod-lt s {m = 16} (lit< tt))))

    power : (k : ℕ) → s / 16 ≡ k → 2 ^ s ≡ 2 ^ (16 * k) * f 17
    power k q = split s k q ∙ ap (λ z. 2 ^ (16 * k) * z) (sym e)

    sll_by : (k : ℕ) → k < 4 → s / 16 ≡ k → Results x (whole own * 2 ^ s % 18446744073709551616)
    sll_by zero k q = subst (λ z. Results x (whole own * z % 18446744073709551616)) (sym (power 0 q ∙ omega arith)) (C.sll0 x sll_n (known_row 0 0 0 s 0 h q) sll_cut)
    sll_by (suc zero) k q = subst (λ z. Results x (whole own * z % 18446744073709551616)) (sym (power 1 q)) (C.sll1 x sll_n (known_row 0 0 0 s 1 h q) sll_cut)
    sll_by (suc (suc zero)) k q = subst (λ z. Results x (whole own * z % 18446744073709551616)) (sym (power 2 q)) (C.sll2 x sll_n (known_row 0 0 0 s 2 h q) sll_cut)
    sll_by (suc (suc (suc zero))) k q = subst (λ z. Results x (whole own * z % 18446744073709551616)) (sym (power 3 q)) (C.sll3 x sll_n (known_row 0 0 0 s 3 h q) sll_cut)
    sll_by (suc (suc (suc (suc j)))) k q = absurd (over j k)

    sll_result : Results x (whole own * 2 ^ s % 18446744073709551616)
    sll_result = sll_by (s / 16) (omega arith) refl

  -- SRL and SRA
  module _ (s ar : ℕ) (l : s < 64) (h : Shape 1 ar 0 s) (e : f 17 ≡ 2 ^ (16 - s % 16)) where
    abbrev srl_n : ℕ
    srl_n = 2 ^ (s % 16)

    srl_cut : Cut own srl_n
    srl_cut = C.cut_plain x srl_n sel.meets (plain_row 1 ar s h) (subst (λ z. z * srl_n ≡ 65536) (sym e) (turned_power (s % 16) (mod-lt s {m = 16} (lit< tt))))

    srl_by : ar ≡ 0 → (k : ℕ) → k < 4 → s / 16 ≡ k → Results x (whole own / 2 ^ s)
    srl_by z zero k q = subst (Results x) (sym (one_step (whole own) s q)) (C.srl0 x srl_n (known_row 1 0 0 s 0 (subst (λ a. Shape 1 a 0 s) z h) q) srl_cut)
    srl_by z (suc zero) k q = subst (Results x) (sym (two_steps (whole own) s 1 q)) (C.srl1 x srl_n (known_row 1 0 0 s 1 (subst (λ a. Shape 1 a 0 s) z h) q) srl_cut)
    srl_by z (suc (suc zero)) k q = subst (Results x) (sym (two_steps (whole own) s 2 q)) (C.srl2 x srl_n (known_row 1 0 0 s 2 (subst (λ a. Shape 1 a 0 s) z h) q) srl_cut)
    srl_by z (suc (suc (suc zero))) k q = subst (Results x) (sym (two_steps (whole own) s 3 q)) (C.srl3 x srl_n (known_row 1 0 0 s 3 (subst (λ a. Shape 1 a 0 s) z h) q) srl_cut)
    srl_by z (suc (suc (suc (suc j)))) k q = absurd (over j k)

    srl_result : ar ≡ 0 → Results x (whole own / 2 ^ s)
    srl_result z = srl_by z (s / 16) (omega arith) refl

    plus_by : ar ≡ 1 → f 18 ≡ 0 → (k : ℕ) → k < 4 → s / 16 ≡ k → Results x (whole own / 2 ^ s)
    plus_by z b zero k q = subst (Results x) (sym (one_step (whole own) s q)) (C.plus0 x srl_n (signed_row 0 1 1 0 s 0 b (subst (λ a. Shape 1 a 0 s) z h) q) srl_cut)
    plus_by z b (suc zero) k q = subst (Results x) (sym (two_steps (whole own) s 1 q)) (C.plus1 x srl_n (signed_row 0 1 1 0 s 1 b (subst (λ a. Shape 1 a 0 s) z h) q) srl_cut)
    plus_by z b (suc (suc zero)) k q = subst (Results x) (sym (two_steps (whole own) s 2 q)) (C.plus2 x srl_n (signed_row 0 1 1 0 s 2 b (subst (λ a. Shape 1 a 0 s) z h) q) srl_cut)
    plus_by z b (suc (suc (suc zero))) k q = subst (Results x) (sym (two_steps (whole own) s 3 q)) (C.plus3 x srl_n (signed_row 0 1 1 0 s 3 b (subst (λ a. Shape 1 a 0 s) z h) q) srl_cut)
    plus_by z b (suc (suc (suc (suc j)))) k q = absurd (over j k)

    minus_by : ar ≡ 1 → f 18 ≡ 1 → (n : ℕ) → n + suc (whole own) ≡ 18446744073709551616 → (k : ℕ) → k < 4 → s / 16 ≡ k → Results x (18446744073709551616 - suc (n / 2 ^ s))
    minus_by z b n v zero k q = subst (λ w. Results x (18446744073709551616 - suc w)) (sym (one_step n s q)) (C.minus0 x srl_n n v (signed_row 1 1 1 0 s 0 b (subst (λ a. Shape 1 a 0 s) z h) q) srl_cut)
    minus_by z b n v (suc zero) k q = subst (λ w. Results x (18446744073709551616 - suc w)) (sym (two_steps n s 1 q)) (C.minus1 x srl_n n v (signed_row 1 1 1 0 s 1 b (subst (λ a. Shape 1 a 0 s) z h) q) srl_cut)
    minus_by z b n v (suc (suc zero)) k q = subst (λ w. Results x (18446744073709551616 - suc w)) (sym (two_steps n s 2 q)) (C.minus2 x srl_n n v (signed_row 1 1 1 0 s 2 b (subst (λ a. Shape 1 a 0 s) z h) q) srl_cut)
    minus_by z b n v (suc (suc (suc zero))) k q = subst (λ w. Results x (18446744073709551616 - suc w)) (sym (two_steps n s 3 q)) (C.minus3 x srl_n n v (signed_row 1 1 1 0 s 3 b (subst (λ a. Shape 1 a 0 s) z h) q) srl_cut)
    minus_by z b n v (suc (suc (suc (suc j)))) k q = absurd (over j k)

    plus_result : ar ≡ 1 → f 18 ≡ 0 → Results x (whole own / 2 ^ s)
    plus_result z b = plus_by z b (s / 16) (omega arith) refl

    minus_result : ar ≡ 1 → f 18 ≡ 1 → (n : ℕ) → n + suc (whole own) ≡ 18446744073709551616 → Results x (18446744073709551616 - suc (n / 2 ^ s))
    minus_result z b n v = minus_by z b n v (s / 16) (omega arith) refl

  -- the shifts on 32 bits
  abbrev low : Digits
  low = digits f 0 0

  narrow_row : (rt t : ℕ) → Shape rt 0 1 t → Row items x 11 (here narrow)
  narrow_row rt t h = sel.row _ (sel.one, (h.ar_is, (h.ww_is, (h.m, sel.within))))

  narrow_signed_row : (sb rt t : ℕ) → f 18 ≡ sb → Shape rt 1 1 t → Row items x 11 (here (narrow_signed sb))
  narrow_signed_row sb rt t b h = sel.row _ (sel.one, (h.ar_is, (h.ww_is, (b, (h.m, sel.within)))))

  module _ (s : ℕ) (l : s < 32) (h : Shape 0 0 1 s) (e : f 17 ≡ 2 ^ (s % 16)) where
    abbrev sllw_n : ℕ
    sllw_n = 2 ^ (16 - s % 16)

    sllw_cut : Cut low sllw_n
    sllw_cut = (C.cut_narrow x sllw_n sel.meets (narrow_row 0 s h) sel.within (subst (λ z. z * sllw_n ≡ 65536) (sym e) (whole_power (s % 16) (mod-lt s {m = 16} (lit< tt))))).0

    powerw : (k : ℕ) → s / 16 ≡ k → 2 ^ s ≡ 2 ^ (16 * k) * f 17
    powerw k q = split s k q ∙ ap (λ z. 2 ^ (16 * k) * z) (sym e)

    sllw_by : (k : ℕ) → k < 2 → s / 16 ≡ k → Results x (word (half low * 2 ^ s))
    sllw_by zero k q = subst (λ z. Results x (word (half low * z))) (sym (powerw 0 q ∙ omega arith)) (C.sllw0 x sllw_n sel.meets signs (known_row 0 0 1 s 0 h q) sllw_cut)
    sllw_by (suc zero) k q = subst (λ z. Results x (word (half low * z))) (sym (powerw 1 q)) (C.sllw1 x sllw_n sel.meets signs (known_row 0 0 1 s 1 h q) sllw_cut)
    sllw_by (suc (suc j)) k q = absurd (over' j k)

    sllw_result : Results x (word (half low * 2 ^ s))
    sllw_result = sllw_by (s / 16) (omega arith) refl

  module _ (s : ℕ) (l : s < 32) (h : Shape 1 0 1 s) (e : f 17 ≡ 2 ^ (16 - s % 16)) where
    abbrev srlw_n : ℕ
    srlw_n = 2 ^ (s % 16)

    srlw_cut : Cut low srlw_n × (0 ≡ 65536 * f 22 + f 26) × (0 ≡ 65536 * f 23 + f 27)
    srlw_cut = C.cut_narrow x srlw_n sel.meets (narrow_row 1 s h) sel.within (subst (λ z. z * srlw_n ≡ 65536) (sym e) (turned_power (s % 16) (mod-lt s {m = 16} (lit< tt))))

    srlw_by : (k : ℕ) → k < 2 → s / 16 ≡ k → Results x (word (half low / 2 ^ s))
    srlw_by zero k q = subst (λ z. Results x (word z)) (sym (one_step (half low) s q)) (C.srlw0 x srlw_n sel.meets signs srlw_cut.1 srlw_cut.2 (known_row 1 0 1 s 0 h q) srlw_cut.0)
    srlw_by (suc zero) k q = subst (λ z. Results x (word z)) (sym (two_steps (half low) s 1 q)) (C.srlw1 x srlw_n sel.meets signs srlw_cut.1 srlw_cut.2 (known_row 1 0 1 s 1 h q) srlw_cut.0)
    srlw_by (suc (suc j)) k q = absurd (over' j k)

    srlw_result : Results x (word (half low / 2 ^ s))
    srlw_result = srlw_by (s / 16) (omega arith) refl

  module _ (s : ℕ) (l : s < 32) (h : Shape 1 1 1 s) (e : f 17 ≡ 2 ^ (16 - s % 16)) where
    abbrev sraw_n : ℕ
    sraw_n = 2 ^ (s % 16)

    sraw_turn : f 17 * sraw_n ≡ 65536
    sraw_turn = subst (λ z. z * sraw_n ≡ 65536) (sym e) (turned_power (s % 16) (mod-lt s {m = 16} (lit< tt)))

    plusw_cut : f 18 ≡ 0 → Cut low sraw_n × (0 ≡ 65536 * f 22 + f 26) × (0 ≡ 65536 * f 23 + f 27)
    plusw_cut b = C.cut_plus x sraw_n sel.meets (narrow_signed_row 0 1 s b h) sel.within sraw_turn

    plusw_by : f 18 ≡ 0 → half low < 2147483648 → (k : ℕ) → k < 2 → s / 16 ≡ k → Results x (half low / 2 ^ s)
    plusw_by b v zero k q = let c = plusw_cut b in subst (Results x) (sym (one_step (half low) s q)) (C.plusw0 x sraw_n sel.meets signs c.1 c.2 (signed_row 0 1 1 1 s 0 b h q) c.0 v)
    plusw_by b v (suc zero) k q = let c = plusw_cut b in subst (Results x) (sym (two_steps (half low) s 1 q)) (C.plusw1 x sraw_n sel.meets signs c.1 c.2 (signed_row 0 1 1 1 s 1 b h q) c.0 v)
    plusw_by b v (suc (suc j)) k q = absurd (over' j k)

    plusw_result : f 18 ≡ 0 → half low < 2147483648 → Results x (half low / 2 ^ s)
    plusw_result b v = plusw_by b v (s / 16) (omega arith) refl

    minusw_by : f 18 ≡ 1 → (n : ℕ) → n + suc (half low) ≡ 4294967296 → n < 2147483648 → (k : ℕ) → k < 2 → s / 16 ≡ k → Results x (18446744073709551616 - suc (n / 2 ^ s))
    minusw_by b n v w zero k q =
        let r = narrow_signed_row 1 1 s b h in
        subst (λ w. Results x (18446744073709551616 - suc w)) (sym (one_step n s q)) (C.minusw0 x sraw_n sel.meets signs (line r (item_at items 60) (sel.meets 60) refl) (line r (item_at items 61) (sel.meets 61) refl) n v w (signed_row 1 1 1 1 s 0 b h q) (C.cut_minus x sraw_n sel.meets r sel.within sraw_turn))
    minusw_by b n v w (suc zero) k q =
        let r = narrow_signed_row 1 1 s b h in
        subst (λ w. Results x (18446744073709551616 - suc w)) (sym (two_steps n s 1 q)) (C.minusw1 x sraw_n sel.meets signs (line r (item_at items 60) (sel.meets 60) refl) (line r (item_at items 61) (sel.meets 61) refl) n v w (signed_row 1 1 1 1 s 1 b h q) (C.cut_minus x sraw_n sel.meets r sel.within sraw_turn))
    minusw_by b n v w (suc (suc j)) k q = absurd (over' j k)

    minusw_result : f 18 ≡ 1 → (n : ℕ) → n + suc (half low) ≡ 4294967296 → n < 2147483648 → Results x (18446744073709551616 - suc (n / 2 ^ s))
    minusw_result b n v w = minusw_by b n v w (s / 16) (omega arith) refl

  -- the signs of the operands
  sign_line : (rt ar t : ℕ) → Shape rt ar 0 t → f 5 ≡ 32768 * f 18 + f 19
  sign_line rt ar t h = line (plain_row rt ar t h) (item_at items 57) (sel.meets 57) refl

  -- the numbers a and b
  abbrev pub second : ℕ
  second = (f 7 + 64 * (f 8 + 65536 * f 9)) + 4294967296 * f 6

  low_bits : f 7 < 64 → second % 64 ≡ f 7
  low_bits l = omega arith

  low_bits' : f 7 < 64 → second % 32 ≡ f 7 % 32
  low_bits' l = omega arith

  -- the row has the tuple of the operation o on its operands
  abbrev pub IsOp : OpNo → Type 0
  IsOp o = (value_of o (whole own) second < 2 ^ 64) × (map (value items x) operation.terms ≡ op_tuple o (whole own) second)

  first_limbs : Limbs (value items x alo) (value items x ahi) (whole own)
  first_limbs =
      limbs_of _ _ _ _ _ _ (amount base alo refl) (amount base ahi refl) (fact told f sel.within 2) (fact told f sel.within 3) (fact told f sel.within 4) (fact told f sel.within 5)
    where
      limbs_of : (lo hi a0 a1 a2 a3 : ℕ) → lo ≡ a0 + 65536 * a1 → hi ≡ a2 + 65536 * a3 → a0 ≤ 65535 → a1 ≤ 65535 → a2 ≤ 65535 → a3 ≤ 65535 → Limbs lo hi ((a0 + 65536 * a1) + 4294967296 * (a2 + 65536 * a3))
      limbs_of lo hi a0 a1 a2 a3 e g h0 h1 h2 h3 = record { low = omega arith; high = omega arith; value = omega arith }

  low_row : Row items x 11 (here ((0, is 1) ∷ (7, most 63) ∷ told))
  low_row = sel.row _ (sel.one, (le_of_suc-le-suc sel.asks.s_small, sel.within))

  second_limbs : f 6 < 4294967296 → Limbs (value items x blo) (f 6) second
  second_limbs b =
      limbs_of _ _ _ _ _ (amount low_row blo refl) sel.asks.s_small (fact told f sel.within 8) top_small b
    where
      limbs_of : (lo hi s t0 t1 : ℕ) → lo ≡ s + 64 * (t0 + 65536 * t1) → s < 64 → t0 ≤ 65535 → 64 * t1 ≤ 65535 → hi < 4294967296 → Limbs lo hi ((s + 64 * (t0 + 65536 * t1)) + 4294967296 * hi)
      limbs_of lo hi s t0 t1 e h0 h1 h2 h3 = record { low = omega arith; high = h3; value = omega arith }

  tuple_of : (o : OpNo) → f 1 ≡ op_number o → flag_of o (whole own) second ≡ false → f 6 < 4294967296 → Results x (value_of o (whole own) second) → IsOp o
  tuple_of o n g b v =
      let k = second_limbs b in
      (fits_of _ _ _ v, (λ i. n i ∷ low_of _ _ _ first_limbs i ∷ high_of _ _ _ first_limbs i ∷ low_of _ _ _ k i ∷ high_of _ _ _ k i ∷ low_of _ _ _ v i ∷ high_of _ _ _ v i ∷ one_if (sym g i) ∷ []))

  -- the columns of the shift o
  shape : (o : ℕ) → sel.asks.o ≡ o → Shape (right o) (signed o) (wide o) (shift_amount o (f 7)) × (f 17 ≡ factor o (shift_amount o (f 7))) × (f 1 ≡ 11 + o)
  shape o e =
      let a = sel.asks in
      let at : (j : ℕ) → at_place (shift_amount a.o (f 7) / 16) j ≡ at_place (shift_amount o (f 7) / 16) j = λ j. ap (λ z. at_place (shift_amount z (f 7) / 16) j) e in
      let m : f 17 ≡ factor o (shift_amount o (f 7)) = a.m ∙ ap (λ z. factor z (shift_amount z (f 7))) e in
      (record { rt_is = a.rt ∙ ap right e; ar_is = a.ar ∙ ap signed e; ww_is = a.ww ∙ ap wide e; u0 = a.u0 ∙ at 0; u1 = a.u1 ∙ at 1; u2 = a.u2 ∙ at 2; u3 = a.u3 ∙ at 3; m = subst (λ z. z ≤ 65536) (sym m) (factor_small o (shift_amount o (f 7))) }, m, a.op ∙ ap (λ z. 11 + z) e)

  two_signs : (f 18 ≡ 0) ⊎ (f 18 ≡ 1)
  two_signs = by (f 18) (fact told f sel.within 18)
    where
      by : (v : ℕ) → v ≤ 1 → (v ≡ 0) ⊎ (v ≡ 1)
      by zero l = inl refl
      by (suc v) l = inr (omega arith)

  -- the other number, where two add up to n
  rest_of : (a n : ℕ) → a < n → (n - suc a) + suc a ≡ n
  rest_of a n l = omega arith

  whole_small : whole own < 18446744073709551616
  whole_small = omega (arith, first_limbs)

  half_is : whole own % 4294967296 ≡ half low
  half_is = cut _ _ _ _ (fact told f sel.within 2) (fact told f sel.within 3)
    where
      cut : (a0 a1 a2 a3 : ℕ) → a0 ≤ 65535 → a1 ≤ 65535 → ((a0 + 65536 * a1) + 4294967296 * (a2 + 65536 * a3)) % 4294967296 ≡ a0 + 65536 * a1
      cut a0 a1 a2 a3 h k = omega arith

  half_small : half low < 4294967296
  half_small = omega (arith, fact told f sel.within 2, fact told f sel.within 3)

  less : f 7 % 32 < 32
  less = mod-lt (f 7) {m = 32} (lit< tt)

  not_signed : (a0 a1 a2 a3 sb xr : ℕ) → a3 ≡ 32768 * sb + xr → sb ≡ 0 → xr ≤ 32767 → a0 ≤ 65535 → a1 ≤ 65535 → a2 ≤ 65535 → (a0 + 65536 * a1) + 4294967296 * (a2 + 65536 * a3) < 9223372036854775808
  not_signed a0 a1 a2 a3 sb xr e z l h0 h1 h2 = omega arith

  is_signed : (a0 a1 a2 a3 sb xr : ℕ) → a3 ≡ 32768 * sb + xr → sb ≡ 1 → 9223372036854775808 ≤ (a0 + 65536 * a1) + 4294967296 * (a2 + 65536 * a3)
  is_signed a0 a1 a2 a3 sb xr e z = omega arith

  low_plus : (a0 a1 xr : ℕ) → a1 ≡ xr → xr ≤ 32767 → a0 ≤ 65535 → a0 + 65536 * a1 < 2147483648
  low_plus a0 a1 xr e l h = omega arith

  low_minus : (a0 a1 xr : ℕ) → a1 ≡ 32768 + xr → 2147483648 ≤ a0 + 65536 * a1
  low_minus a0 a1 xr e = omega arith

  other_half : (a n : ℕ) → n + suc a ≡ 4294967296 → 2147483648 ≤ a → n < 2147483648
  other_half a n e h = omega arith

  module _ (b : f 6 < 4294967296) where
    pub case0 : sel.asks.o ≡ 0 → IsOp ops.Sll
    unfolding op_number flag_of
    case0 e = let h = shape 0 e in tuple_of ops.Sll h.2 refl b (subst (Results x) (sym (sll_is (whole own) second (f 7) (low_bits sel.asks.s_small))) (sll_result (f 7) sel.asks.s_small h.0 h.1))

    pub case1 : sel.asks.o ≡ 1 → IsOp ops.Srl
    unfolding op_number flag_of
    case1 e = let h = shape 1 e in tuple_of ops.Srl h.2 refl b (subst (Results x) (sym (srl_is (whole own) second (f 7) (low_bits sel.asks.s_small))) (srl_result (f 7) 0 sel.asks.s_small h.0 h.1 refl))

    pub case2 : sel.asks.o ≡ 2 → IsOp ops.Sra
    unfolding op_number flag_of
    case2 e =
        let h = shape 2 e in
        let top = sign_line 1 1 (f 7) h.0 in
        let n = 18446744073709551616 - suc (whole own) in
        let v = rest_of (whole own) 18446744073709551616 whole_small in
        tuple_of ops.Sra h.2 refl b (elim two_signs [
          | inl z ↦ subst (Results x) (sym (sra_plus (whole own) second (f 7) (low_bits sel.asks.s_small) (not_signed _ _ _ _ _ _ top z xr_small (fact told f sel.within 2) (fact told f sel.within 3) (fact told f sel.within 4)))) (plus_result (f 7) 1 sel.asks.s_small h.0 h.1 refl z)
          | inr z ↦ subst (Results x) (sym (sra_minus (whole own) second (f 7) (low_bits sel.asks.s_small) (is_signed (f 2) (f 3) (f 4) (f 5) _ _ top z) n v)) (minus_result (f 7) 1 sel.asks.s_small h.0 h.1 refl z n v)
        ])

    pub case3 : sel.asks.o ≡ 3 → IsOp ops.Sllw
    unfolding op_number flag_of
    case3 e = let h = shape 3 e in tuple_of ops.Sllw h.2 refl b (subst (Results x) (sym (sllw_is (whole own) second (f 7 % 32) (half low) half_is (low_bits' sel.asks.s_small))) (sllw_result (f 7 % 32) less h.0 h.1))

    pub case4 : sel.asks.o ≡ 4 → IsOp ops.Srlw
    unfolding op_number flag_of
    case4 e = let h = shape 4 e in tuple_of ops.Srlw h.2 refl b (subst (Results x) (sym (srlw_is (whole own) second (f 7 % 32) (half low) half_is (low_bits' sel.asks.s_small))) (srlw_result (f 7 % 32) less h.0 h.1))

    pub case5 : sel.asks.o ≡ 5 → IsOp ops.Sraw
    unfolding op_number flag_of
    case5 e =
        let h = shape 5 e in
        let bits = low_bits' sel.asks.s_small in
        let n = 4294967296 - suc (half low) in
        let v = rest_of (half low) 4294967296 half_small in
        tuple_of ops.Sraw h.2 refl b (elim two_signs [
          | inl z ↦ (let w = low_plus (f 2) (f 3) (f 19) (line (narrow_signed_row 0 1 (f 7 % 32) z h.0) (item_at items 57) (sel.meets 57) refl) xr_small (fact told f sel.within 2) in
              subst (Results x) (sym (sraw_plus (whole own) second (f 7 % 32) (half low) half_is bits w)) (plusw_result (f 7 % 32) less h.0 h.1 z w))
          | inr z ↦ (let w = low_minus (f 2) (f 3) (f 19) (line (narrow_signed_row 1 1 (f 7 % 32) z h.0) (item_at items 57) (sel.meets 57) refl) in
              subst (Results x) (sym (sraw_minus (whole own) second (f 7 % 32) (half low) half_is bits w n v)) (minusw_result (f 7 % 32) less h.0 h.1 z n v (other_half (half low) n v w)))
        ])

    abbrev Tells : Type 0
    Tells = IsOperationOf airs.Shift (map (value items x) operation.terms)

    of_op : (o : OpNo) → air_of o ≡ airs.Shift → IsOp o → Tells
    of_op o e v = (record { o = o; a = whole own; b = second; a_fits = fits_of _ _ _ first_limbs; b_fits = fits_of _ _ _ (second_limbs b); value_fits = v.0; is = v.1 }, e)

    each_tells : Each (λ j. sel.asks.o ≡ j → Tells) 6
    unfolding air_of op_number
    each_tells = (λ e. of_op ops.Sll refl (case0 e), (λ e. of_op ops.Srl refl (case1 e), (λ e. of_op ops.Sra refl (case2 e), (λ e. of_op ops.Sllw refl (case3 e), (λ e. of_op ops.Srlw refl (case4 e), (λ e. of_op ops.Sraw refl (case5 e), tt))))))

    pub one_tells : Tells
    one_tells = each (λ j. sel.asks.o ≡ j → Tells) 6 each_tells sel.asks.o sel.asks.o_small refl
