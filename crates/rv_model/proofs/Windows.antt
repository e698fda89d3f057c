-- The output window, doubleword after doubleword.
use Rattle.std.proofs.Common.{◌≡◌, ◌+◌, ◌*◌, ◌≤◌, ℕ, zero, suc, List, [], ◌∷◌, take, drop, length, ◌++◌, ap, sym, ◌∙◌, arith, add-one, length-append}
use Rattle.std.proofs.Math.Seq.{take-length}
use Rattle.std.proofs.lemmas.List.{length-take, take_at}
use Rattle.std.proofs.lemmas.Grind.{flat_map-append}
use Rattle.std.specs.List.{flat_map, range_with_len}
use Rattle.std.specs.Int.{to_le_bytes, w64}
use Rattle.rv_model.specs.declared.machine.TheConstants.{OUTPUT_INDEX, OUTPUT_LEN, OUTPUT_WORDS}
use Rattle.rv_model.specs.Run.{window}

range_more : (a n : ℕ) → range_with_len a (suc n) ≡ range_with_len a n ++ (a + n) ∷ []
range_more a zero = let e : a ≡ a + 0 = omega arith in ap (λ k. k ∷ []) e
range_more a (suc n) =
    let e : a + 1 + n ≡ a + suc n = omega arith in
    ap (λ xs. a ∷ xs) (range_more (a + 1) n ∙ ap (λ k. range_with_len (a + 1) n ++ k ∷ []) e)

window-more : (word : ℕ → ℕ) (n : ℕ) → window word (n + 1) ≡ window word n ++ to_le_bytes w64 (word (OUTPUT_INDEX + n))
unfolding window
window-more word n =
    let f : ℕ → List ℕ = λ k. to_le_bytes w64 (word k) in
    rw add-one (ap (flat_map f) (range_more OUTPUT_INDEX n) ∙ flat_map-append f (range_with_len OUTPUT_INDEX n) ((OUTPUT_INDEX + n) ∷ []))

pub window_step : (word : ℕ → ℕ) (out bytes : List ℕ) (i : ℕ) → 8 * i + 8 ≤ length out → length bytes ≡ 8 → bytes ≡ to_le_bytes w64 (word (OUTPUT_INDEX + i)) → take (8 * i) out ≡ window word i → take (8 * (i + 1)) (take (8 * i) out ++ bytes ++ drop (8 * i + 8) out) ≡ window word (i + 1)
window_step word out bytes i room eight is known =
    let long : length (take (8 * i) out ++ bytes) ≡ 8 * (i + 1) = simp (length-append, length-take) (omega arith) in
    take_at (take (8 * i) out ++ bytes) (drop (8 * i + 8) out) (8 * (i + 1)) long ∙ ap (λ xs. xs ++ bytes) known ∙ ap (λ xs. window word i ++ xs) is ∙ sym (window-more word i)

pub window_all : (word : ℕ → ℕ) (out : List ℕ) (i : ℕ) → i ≡ OUTPUT_WORDS → length out ≡ OUTPUT_LEN → take (8 * i) out ≡ window word i → out ≡ window word OUTPUT_WORDS
window_all word out i last long known =
    let all : 8 * i ≡ length out = omega arith in
    sym (rw all (take-length out)) ∙ known ∙ ap (window word) last
