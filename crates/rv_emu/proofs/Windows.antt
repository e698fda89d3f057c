-- The output window, doubleword after doubleword.
use Rattle.std.proofs.Common.{◌≡◌, ◌+◌, ◌*◌, ◌≤◌, ℕ, List, [], ◌∷◌, take, drop, length, ◌++◌, refl, ap, sym, ◌∙◌, arith, length-append}
use Rattle.std.proofs.Math.Seq.{take-length}
use Rattle.std.proofs.lemmas.List.{length-take, take_at}
use Rattle.std.proofs.lemmas.Grind.{flat_map-append}
use Rattle.std.specs.List.{flat_map, range_with_len}
use Rattle.std.specs.Int.{to_le_bytes, w64}
use Rattle.rv_model.specs.Run.{window}
use Rattle.rv_emu.proofs.Onward.{range_more}

window-more : (word : ℕ → ℕ) (n : ℕ) → window word (n + 1) ≡ window word n ++ to_le_bytes w64 (word (0x0A00_0000 + n))
unfolding window
window-more word n =
    let f : ℕ → List ℕ = λ k. to_le_bytes w64 (word k) in
    ap (flat_map f) (range_more 0x0A00_0000 n) ∙ flat_map-append f (range_with_len 0x0A00_0000 n) ((0x0A00_0000 + n) ∷ [])

pub window_step : (word : ℕ → ℕ) (out bytes : List ℕ) (i : ℕ) → 8 * i + 8 ≤ length out → length bytes ≡ 8 → bytes ≡ to_le_bytes w64 (word (0x0A00_0000 + i)) → take (8 * i) out ≡ window word i
    → take (8 * (i + 1)) (take (8 * i) out ++ bytes ++ drop (8 * i + 8) out) ≡ window word (i + 1)
window_step word out bytes i room eight is known =
    let long : length (take (8 * i) out ++ bytes) ≡ 8 * (i + 1) = simp (length-append, length-take) (omega arith) in
    take_at (take (8 * i) out ++ bytes) (drop (8 * i + 8) out) (8 * (i + 1)) long ∙ ap (λ xs. xs ++ bytes) known ∙ ap (λ xs. window word i ++ xs) is ∙ sym (window-more word i)

pub window_all : (word : ℕ → ℕ) (out : List ℕ) (i : ℕ) → i ≡ 32 → length out ≡ 256 → take (8 * i) out ≡ window word i → out ≡ window word 32
window_all word out i last long known =
    let all : 8 * i ≡ length out = omega arith in
    sym (rw all (take-length out)) ∙ known ∙ ap (window word) last
