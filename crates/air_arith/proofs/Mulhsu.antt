-- MULHSU.
use Rattle.std.proofs.Common.{ℕ, zero, suc, ◌+◌, ◌*◌, ◌<◌, ◌≤◌, ◌≡◌, [], ◌∷◌, refl, sym, lit<, arith}
use Rattle.std.specs.Int.{w64}
use Rattle.rv_word.specs.declared.instr.OpNo.TheVariants as ops
use Rattle.rv_word.specs.Numbers.{op_number}
use Rattle.rv_model.specs.Op.{flag_of}
use Rattle.pil_ast.specs.Term.{item_at}
use Rattle.pil_ast.specs.Value.{Cells, value}
use Rattle.pil_exact.proofs.Row.{is, line, amount}
use Rattle.air_arith.proofs.Signed.{IsSize, sign_of}
use Rattle.machine_text.specs.Arith.{items, op, chi}
use Rattle.air_arith.proofs.Numbers.{limb, wide, Sized, HighOutcome, no_sign, same_limbs}
use Rattle.air_arith.proofs.Quotients.{first_64, high_bits}
use Rattle.air_arith.proofs.Rows.{Op, IsResult, with_facts, plain_row, bound, product, four, small_limb, small_wide, result_64}
use Rattle.pil_exact.proofs.Row.{left_term, right_term}
use Rattle.air_arith.proofs.Values.{mulhsu_value}

no_rest : (v r w : ℕ) → r ≡ 0 → v + r ≡ w → v ≡ w
no_rest v r w z p = omega arith

module _ (x : Cells) where
  abbrev f : ℕ → ℕ
  f = x.column 0 12

  module _ (o : Op x 2) where
    abbrev meets : (k : ℕ) → value items x (left_term (item_at items k)) ≡ value items x (right_term (item_at items k))
    meets = o.selected.meets

    first_sized : (t : ℕ) → f 56 ≡ t → t ≤ 1 → Sized t (limb f 22) (limb f 24) (limb f 14) (limb f 16) (f 60)
    first_sized zero e l = let row = with_facts x 2 o ((56, is 0) ∷ []) (e, tt) in (line row (item_at items 148) (meets 148) refl, line row (item_at items 149) (meets 149) refl)
    first_sized (suc zero) e l = let row = with_facts x 2 o ((56, is 1) ∷ []) (e, tt) in (line row (item_at items 148) (meets 148) refl, line row (item_at items 149) (meets 149) refl)
    first_sized (suc (suc t)) e l = absurd (no_sign t l)

    result : (s : ℕ) → f 56 ≡ s → s ≤ 1 → HighOutcome (sign_of s 0) (limb f 38) (limb f 40) (limb f 71) (limb f 73) (f 62) (f 75) (f 76)
    result zero e h = let row = with_facts x 2 o ((56, is 0) ∷ []) (e, tt) in (line row (item_at items 167) (meets 167) refl, line row (item_at items 168) (meets 168) refl)
    result (suc zero) e h = let row = with_facts x 2 o ((56, is 1) ∷ []) (e, tt) in (line row (item_at items 167) (meets 167) refl, line row (item_at items 168) (meets 168) refl)
    result (suc (suc s)) e h = absurd (no_sign s h)

    first_size : IsSize w64 (wide f 14) (wide f 22) (f 56)
    first_size = first_64 x o.selected (limb f 22) (limb f 24) (first_sized (f 56) refl (bound x o.selected 56)) (line (plain_row x 2 o) (item_at items 146) (meets 146) refl)

    whole : wide f 22 * wide f 26 ≡ wide f 34 + 18446744073709551616 * wide f 38
    whole = let row = plain_row x 2 o in no_rest (wide f 22 * wide f 26) (wide f 30) _ (four _ _ _ _ (line row (item_at items 152) (meets 152) refl)) (product x o.selected)

    low_zero : f 62 ≡ 0 → f 34 + f 35 + f 36 + f 37 ≡ 0
    low_zero z = let row = with_facts x 2 o ((62, is 0) ∷ []) (z, tt) in line row (item_at items 162) (meets 162) refl

    low_some : f 62 ≡ 1 → f 34 + f 35 + f 36 + f 37 ≡ 1 + limb f 63
    low_some z = let row = with_facts x 2 o ((62, is 1) ∷ []) (z, tt) in line row (item_at items 163) (meets 163) refl

    small_low : wide f 34 < 18446744073709551616
    small_low = small_wide _ _ (small_limb _ _ (bound x o.selected 34) (bound x o.selected 35)) (small_limb _ _ (bound x o.selected 36) (bound x o.selected 37))

    small_high : wide f 38 < 18446744073709551616
    small_high = small_wide _ _ (small_limb _ _ (bound x o.selected 38) (bound x o.selected 39)) (small_limb _ _ (bound x o.selected 40) (bound x o.selected 41))

    second_is : wide f 26 ≡ wide f 18
    second_is = let row = plain_row x 2 o in same_limbs (limb f 18) (limb f 20) (limb f 26) (limb f 28) (sym (line row (item_at items 150) (meets 150) refl)) (sym (line row (item_at items 151) (meets 151) refl))

    sign_bound : (s : ℕ) → s ≤ 1 → sign_of s 0 ≤ 1
    sign_bound zero h = omega arith
    sign_bound (suc s) h = omega arith

    pub mulhsu : IsResult x 2 o ops.Mulhsu
    unfolding op_number flag_of
    mulhsu =
        let row = plain_row x 2 o in
        result_64 x 2 o ops.Mulhsu (2, lit< tt, refl) (amount row op refl) refl (amount row chi refl) (mulhsu_value (wide f 14) (wide f 18) (wide f 22) (wide f 26) (f 56) 0 first_size (wide f 34) (wide f 38) (wide f 71) second_is whole small_low small_high (high_bits x o.selected (sign_of (f 56) 0) (sign_bound (f 56) (bound x o.selected 56)) (result (f 56) refl (bound x o.selected 56)) low_zero low_some))
