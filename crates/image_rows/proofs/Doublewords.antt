-- The initial doublewords, by what the image says of each.
use Rattle.std.proofs.Common.{◌≡◌, ◌==◌, ◌<◌, ◌≤◌, ℕ, Bool, true, false, cond, List, length, Option, None, Some, refl, ap, sym, ◌∙◌, arith}
use Rattle.std.specs.Prelude.{Contains, All, AllPairs}
use Rattle.std.proofs.lemmas.Bool.{ne_eqb}
use Rattle.std.proofs.lemmas.Bool.Decides.{nat_tests}
use Rattle.rv_model.specs.Image.{Img, initial_word}
use Rattle.rv_model.specs.declared.machine.TheConstants.{MEMORY_WORDS}
use Rattle.step_rows.specs.declared.doubleword.Doubleword.{Doubleword}
use Rattle.step_rows.specs.Initial.{doublewords, unless_zero, initial_doublewords}
use Rattle.image_rows.specs.Laws.{IsInitial, AreInitial}
use Rattle.image_rows.proofs.Below.{each_below, contains_below, pairs_below, length_below}
use Rattle.image_rows.proofs.Zero.{many_doublewords}

record IsAt (k v : ℕ) (d : Doubleword) : Type 0 where
  number : d.number ≡ k
  value : d.value ≡ v
  some : v ≡ 0 → ⊥

kept : (k v : ℕ) (d : Doubleword) → unless_zero k v ≡ Some d → IsAt k v d
kept k v d e =
    let by : (b : Bool) → (v == 0) ≡ b → cond b None (Some (record { number = k; value = v })) ≡ Some d → IsAt k v d =
    λ b. elim b as (λ t. (v == 0) ≡ t → cond t None (Some (record { number = k; value = v })) ≡ Some d → IsAt k v d) [
      | true ↦ λ z h. absurd cc
      | false ↦ λ z h.
          let w : Doubleword = record { number = k; value = v } in
          let is : d ≡ w = cc in
          record { number = ap (λ (x : Doubleword). x.number) is; value = ap (λ (x : Doubleword). x.value) is; some = λ zero'. grind (arith, nat_tests) }
    ] in
    by (v == 0) refl e

module _ (image : Img) where
  one : (k : ℕ) (d : Doubleword) → k < doublewords → unless_zero k (initial_word image k) ≡ Some d → IsInitial image d
  one k d lt e =
      let h = kept k (initial_word image k) d e in let n = many_doublewords in
      record { below = omega (arith, h.number); value = h.value ∙ ap (initial_word image) (sym h.number); some = λ z. h.some (sym h.value ∙ z) }

  pub are_initial : AreInitial image (initial_doublewords image)
  unfolding initial_doublewords
  are_initial = let n = many_doublewords in record {
    ascending = pairs_below (λ k. unless_zero k (initial_word image k)) (λ (d : Doubleword). d.number) (λ k. k) (λ k d e. (kept k (initial_word image k) d e).number) (λ j k lt. lt) doublewords;
    each = each_below (λ k. unless_zero k (initial_word image k)) (IsInitial image) doublewords one;
    every = λ k lt some.
        let no : (initial_word image k == 0) ≡ false = ne_eqb (initial_word image k) 0 some in
        contains_below (λ k. unless_zero k (initial_word image k)) doublewords k (record { number = k; value = initial_word image k }) (omega arith) (rw no refl);
  }

pub few_doublewords : (image : Img) → length (initial_doublewords image) ≤ MEMORY_WORDS
unfolding initial_doublewords
few_doublewords image = let n = many_doublewords in let h = length_below (λ k. unless_zero k (initial_word image k)) doublewords in omega arith
