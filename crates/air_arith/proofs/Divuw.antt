-- DIVUW.
use Rattle.std.proofs.Common.{ℕ, ◌≡◌, inl, inr, [], ◌∷◌, refl, sym, ap, ◌∙◌, subst, lit<, arith}
use Rattle.rv_word.specs.declared.instr.OpNo.TheVariants as ops
use Rattle.rv_word.specs.Numbers.{op_number}
use Rattle.rv_model.specs.Op.{flag_of, word}
use Rattle.pil_ast.specs.Term.{item_at}
use Rattle.pil_ast.specs.Value.{Cells, value}
use Rattle.pil_exact.proofs.Row.{is, line, amount}
use Rattle.air_arith.proofs.Signed.{Divides}
use Rattle.machine_text.specs.Arith.{items, op, chi}
use Rattle.air_arith.proofs.Numbers.{joined, limb, wide, same_limbs, all_ones}
use Rattle.air_arith.proofs.Quotients.{two_cases, quotient}
use Rattle.air_arith.proofs.Rows.{Op, IsResult, with_facts, plain_row, bound, no_divisor, first_low, second_low, result_low, result_32}
use Rattle.pil_exact.proofs.Row.{left_term, right_term}
use Rattle.air_arith.proofs.Values.{divuw_value, divuw_zero, word_ones}

only_low : (lo hi v : ℕ) → lo ≡ v → hi ≡ 0 → joined lo hi ≡ v
only_low lo hi v e z = omega arith

module _ (x : Cells) where
  abbrev f : ℕ → ℕ
  f = x.column 0 12

  module _ (o : Op x 10) where
    abbrev meets : (k : ℕ) → value items x (left_term (item_at items k)) ≡ value items x (right_term (item_at items k))
    meets = o.selected.meets

    first_is : wide f 34 ≡ limb f 14
    first_is = let row = plain_row x 10 o in only_low (limb f 34) (limb f 36) (limb f 14) (line row (item_at items 148) (meets 148) refl) (line row (item_at items 149) (meets 149) refl)

    second_is : wide f 26 ≡ limb f 18
    second_is = let row = plain_row x 10 o in only_low (limb f 26) (limb f 28) (limb f 18) (line row (item_at items 150) (meets 150) refl) (line row (item_at items 151) (meets 151) refl)

    divided : f 65 ≡ 0 → Divides (wide f 34) (wide f 26) (wide f 22) (wide f 30)
    divided z = let row = with_facts x 10 o ((65, is 0) ∷ []) (z, tt) in quotient x o.selected (line (plain_row x 10 o) (item_at items 153) (meets 153) refl) (line row (item_at items 165) (meets 165) refl) (line row (item_at items 166) (meets 166) refl)

    own : f 65 ≡ 0 → Divides (limb f 14) (limb f 18) (wide f 22) (wide f 30)
    own z = subst (λ n. Divides n (limb f 18) (wide f 22) (wide f 30)) first_is (subst (λ d. Divides (wide f 34) d (wide f 22) (wide f 30)) second_is (divided z))

    no_second : f 65 ≡ 1 → limb f 18 ≡ 0
    no_second z = sym second_is ∙ no_divisor x o.selected z

    pub divuw : IsResult x 10 o ops.Divuw
    unfolding op_number flag_of
    divuw =
        let row = plain_row x 10 o in
        result_32 x 10 o ops.Divuw (10, lit< tt, refl) (amount row op refl) refl (amount row chi refl) (wide f 71) (result_low x o.selected) (elim (two_cases (f 65) (bound x o.selected 65)) [
          | inl z ↦ (let row = with_facts x 10 o ((65, is 0) ∷ []) (z, tt) in divuw_value (wide f 14) (wide f 18) (limb f 14) (limb f 18) (first_low x o.selected) (second_low x o.selected) (wide f 22) (wide f 30) (own z) ∙ ap word (same_limbs (limb f 71) (limb f 73) (limb f 22) (limb f 24) (line row (item_at items 167) (meets 167) refl) (line row (item_at items 168) (meets 168) refl)))
          | inr z ↦ (let r = with_facts x 10 o ((65, is 1) ∷ []) (z, tt) in divuw_zero (wide f 14) (wide f 18) (limb f 14) (limb f 18) (first_low x o.selected) (second_low x o.selected) (no_second z) ∙ word_ones (wide f 71) (all_ones (limb f 71) (limb f 73) (line r (item_at items 169) (meets 169) refl) (line r (item_at items 170) (meets 170) refl)))
        ])
