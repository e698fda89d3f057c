-- REMW.
use Rattle.std.proofs.Common.{ℕ, zero, suc, ◌*◌, ◌%◌, ◌<◌, ◌≤◌, ◌≡◌, inl, inr, [], ◌∷◌, refl, sym, ◌∙◌, subst, lit<, lt_of_lt_of_le, arith}
use Rattle.std.specs.Int.{w32}
use Rattle.rv_word.specs.declared.instr.OpNo.TheVariants as ops
use Rattle.rv_word.specs.Numbers.{op_number}
use Rattle.rv_model.specs.Op.{flag_of}
use Rattle.pil_ast.specs.Term.{item_at}
use Rattle.pil_ast.specs.Value.{Cells, value}
use Rattle.pil_exact.proofs.Row.{is, line, amount}
use Rattle.air_arith.proofs.Signed.{IsSize, IsBits, Divides}
use Rattle.machine_text.specs.Arith.{items, op, chi}
use Rattle.air_arith.proofs.Numbers.{joined, limb, wide, Sized, Outcome, no_sign, undivided, zero_32, some_32, most_32}
use Rattle.air_arith.proofs.Quotients.{two_cases, first_32, second_32, quotient, rest_bits, divisor_some}
use Rattle.air_arith.proofs.Rows.{Op, IsResult, with_facts, plain_row, bound, product, no_divisor, four, first_low, second_low, result_low, result_32}
use Rattle.pil_exact.proofs.Row.{left_term, right_term}
use Rattle.air_arith.proofs.Values.{remw_value, remw_zero, again_32, extended, word_same}

only_low : (lo hi v : ℕ) → lo ≡ v → hi ≡ 0 → joined lo hi ≡ v
only_low lo hi v e z = omega arith

low_again : (v z : ℕ) → v ≡ z → v < 4294967296 → v ≡ z % 4294967296
low_again v z e l = omega arith

module _ (x : Cells) where
  abbrev f : ℕ → ℕ
  f = x.column 0 12

  module _ (o : Op x 11) where
    abbrev meets : (k : ℕ) → value items x (left_term (item_at items k)) ≡ value items x (right_term (item_at items k))
    meets = o.selected.meets

    first_sized : (t : ℕ) → f 56 ≡ t → t ≤ 1 → Sized t (limb f 34) (limb f 36) (limb f 14) (t * 4294967295) (f 60)
    first_sized zero e l = let row = with_facts x 11 o ((56, is 0) ∷ []) (e, tt) in (line row (item_at items 148) (meets 148) refl, line row (item_at items 149) (meets 149) refl)
    first_sized (suc zero) e l = let row = with_facts x 11 o ((56, is 1) ∷ []) (e, tt) in (line row (item_at items 148) (meets 148) refl, line row (item_at items 149) (meets 149) refl)
    first_sized (suc (suc t)) e l = absurd (no_sign t l)

    second_sized : (t : ℕ) → f 58 ≡ t → t ≤ 1 → Sized t (limb f 26) (limb f 28) (limb f 18) (t * 4294967295) (f 61)
    second_sized zero e l = let row = with_facts x 11 o ((58, is 0) ∷ []) (e, tt) in (line row (item_at items 150) (meets 150) refl, line row (item_at items 151) (meets 151) refl)
    second_sized (suc zero) e l = let row = with_facts x 11 o ((58, is 1) ∷ []) (e, tt) in (line row (item_at items 150) (meets 150) refl, line row (item_at items 151) (meets 151) refl)
    second_sized (suc (suc t)) e l = absurd (no_sign t l)

    result : (s : ℕ) → f 56 ≡ s → s ≤ 1 → Outcome s (limb f 30) (limb f 32) (limb f 71) (limb f 73) (f 75) (f 76)
    result zero e h = let row = with_facts x 11 o ((56, is 0) ∷ []) (e, tt) in (line row (item_at items 167) (meets 167) refl, line row (item_at items 168) (meets 168) refl)
    result (suc zero) e h = let row = with_facts x 11 o ((56, is 1) ∷ []) (e, tt) in (line row (item_at items 167) (meets 167) refl, line row (item_at items 168) (meets 168) refl)
    result (suc (suc s)) e h = absurd (no_sign s h)

    first_size : IsSize w32 (limb f 14) (wide f 34) (f 56)
    first_size = first_32 x o.selected (first_sized (f 56) refl (bound x o.selected 56)) (line (plain_row x 11 o) (item_at items 146) (meets 146) refl)

    second_size : IsSize w32 (limb f 18) (wide f 26) (f 58)
    second_size = second_32 x o.selected (second_sized (f 58) refl (bound x o.selected 58)) (line (plain_row x 11 o) (item_at items 147) (meets 147) refl)

    divided : f 65 ≡ 0 → Divides (wide f 34) (wide f 26) (wide f 22) (wide f 30)
    divided z = let row = with_facts x 11 o ((65, is 0) ∷ []) (z, tt) in quotient x o.selected (line (plain_row x 11 o) (item_at items 153) (meets 153) refl) (line row (item_at items 165) (meets 165) refl) (line row (item_at items 166) (meets 166) refl)

    rest_is_first : f 65 ≡ 1 → wide f 34 ≡ wide f 30
    rest_is_first z = undivided (wide f 22) (wide f 26) (wide f 30) (wide f 34) (wide f 38) (product x o.selected) (four _ _ _ _ (line (plain_row x 11 o) (item_at items 153) (meets 153) refl)) (no_divisor x o.selected z)

    bits : IsBits (wide f 30) (wide f 71) (f 56)
    bits = rest_bits x o.selected (f 56) (bound x o.selected 56) (result (f 56) refl (bound x o.selected 56))

    pub remw : IsResult x 11 o ops.Remw
    unfolding op_number flag_of
    remw =
        let row = plain_row x 11 o in
        result_32 x 11 o ops.Remw (11, lit< tt, refl) (amount row op refl) refl (amount row chi refl) (wide f 71) (result_low x o.selected) (elim (two_cases (f 65) (bound x o.selected 65)) [
          | inl z ↦ (let d = divided z in remw_value (wide f 14) (wide f 18) (limb f 14) (limb f 18) (first_low x o.selected) (second_low x o.selected) (wide f 34) (wide f 26) (f 56) (f 58) first_size second_size (wide f 22) (wide f 30) (wide f 71) (some_32 (limb f 18) (wide f 26) (f 58) second_size (divisor_some (wide f 34) (wide f 26) (wide f 22) (wide f 30) d)) d bits ∙ sym (extended (wide f 30) (wide f 71) (f 56) bits (lt_of_lt_of_le d.less (most_32 (limb f 18) (wide f 26) (f 58) second_size))))
          | inr z ↦ (remw_zero (wide f 14) (wide f 18) (limb f 14) (limb f 18) (first_low x o.selected) (second_low x o.selected) (zero_32 (limb f 18) (wide f 26) (f 58) second_size (no_divisor x o.selected z)) ∙ word_same (wide f 14) (wide f 71) (first_low x o.selected ∙ sym (again_32 (limb f 14) (wide f 34) (wide f 71) (f 56) first_size (subst (λ m. IsBits m (wide f 71) (f 56)) (sym (rest_is_first z)) bits))))
        ])
