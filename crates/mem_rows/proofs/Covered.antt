-- Each doubleword that isn't 0 before the run lies in a segment's bytes or in the input window.
use Rattle.std.proofs.Common.{◌≡◌, ◌==◌, ◌&&◌, ◌+◌, ◌-◌, ◌*◌, ◌/◌, ◌^◌, ◌<◌, ◌≤◌, ◌⊎◌, inl, inr, ⊎_elim, ℕ, zero, suc, Bool, true, false, cond, List, [], ◌∷◌, length, get_or, le-ltb, ltb, refl, ap, sym, ◌∙◌, subst, arith}
use Rattle.std.specs.Prelude.{nat_le, nat_lt}
use Rattle.std.proofs.lemmas.Bool.{cases_lt}
use Rattle.std.proofs.lemmas.Bool.Decides.{nat_tests}
use Rattle.std.proofs.lemmas.List.{get_or_past}
use Rattle.chain_pool.specs.Lists.{list_of}
use Rattle.rv_model.specs.Image.{Img, Seg, has, byte_in, segment_byte, window_byte, initial_byte, initial_word}
use Rattle.rv_model.specs.declared.machine.TheConstants.{INPUT_START, INPUT_END}
use Rattle.mem_rows.specs.declared.access.Access.{Access}
use Rattle.mem_rows.specs.Kept.{KeepsTo}
use Rattle.mem_rows.specs.Initial.{write_at, IsPart, IsWritten, Writes}
use Rattle.mem_rows.proofs.Begun.{begun}

abbrev Done : Img → List (ℕ × List Access) → ℕ → Type 0
Done image lists q = list_of lists q ≡ write_at image q

started : (s : Seg) (a : ℕ) → has a s ≡ true → s.start ≤ a
started s a e = grind (arith, nat_tests)

byte_covered : (image : Img) (lists : List (ℕ × List Access)) (q : ℕ) (s : Seg) (a : ℕ) → a / 8 ≡ q → s.start ≤ a → IsWritten image lists s → (byte_in s a ≡ 0) ⊎ Done image lists q
byte_covered image lists q s a at le w =
    ⊎_elim (λ lt. inr (w q (omega arith) (omega arith))) (λ past. inl (get_or_past s.bytes (a - s.start) 0 past)) (cases_lt (a - s.start) (length s.bytes))

segments_covered : (image : Img) (lists : List (ℕ × List Access)) (q : ℕ) (segments : List Seg) → ((j : ℕ) (d : Seg) → j < length segments → IsWritten image lists (get_or segments j d)) → (a : ℕ) → a / 8 ≡ q
    → (segment_byte segments a ≡ 0) ⊎ Done image lists q
segments_covered image lists q [] w a at = inl refl
segments_covered image lists q (s ∷ ss) w a at =
    let rest = segments_covered image lists q ss (λ j d lt. w (suc j) d (omega arith)) a at in
    let found : (b : Bool) → has a s ≡ b → (segment_byte (s ∷ ss) a ≡ 0) ⊎ Done image lists q =
    λ b. elim b as (λ v. has a s ≡ v → (segment_byte (s ∷ ss) a ≡ 0) ⊎ Done image lists q) [
      | true ↦ λ e. rw e (byte_covered image lists q s a at (started s a e) (w 0 s (omega arith)))
      | false ↦ λ e. rw e rest
    ] in
    found (has a s) refl

window_covered : (image : Img) (lists : List (ℕ × List Access)) (q : ℕ) → ((k : ℕ) → 0x0800_0000 ≤ k → k < 0x0800_0000 + length image.input / 8 + 2 → Done image lists k) → (a : ℕ) → a / 8 ≡ q → INPUT_START ≤ a
    → (window_byte image.input (a - INPUT_START) ≡ 0) ⊎ Done image lists q
window_covered image lists q w a at le =
    ⊎_elim (λ lt. inr (w q (omega arith) (omega arith)))
    (λ past. let no : ltb (a - INPUT_START) 8 ≡ false = le-ltb (a - INPUT_START) 8 (omega arith) in inl (rw no (get_or_past image.input (a - INPUT_START - 8) 0 (omega arith)))) (cases_lt (a - INPUT_START) (8 + length image.input))

in_window : (a : ℕ) → (nat_le INPUT_START a && nat_lt a INPUT_END) ≡ true → INPUT_START ≤ a
in_window a e = grind (arith, nat_tests)

record AreWritten (image : Img) (lists : List (ℕ × List Access)) : Type 0 where
  segments : (j : ℕ) (d : Seg) → j < length image.segments → IsWritten image lists (get_or image.segments j d)
  input : (k : ℕ) → 0x0800_0000 ≤ k → k < 0x0800_0000 + length image.input / 8 + 2 → Done image lists k

covered : (image : Img) (lists : List (ℕ × List Access)) → AreWritten image lists → (q a : ℕ) → a / 8 ≡ q → (initial_byte image a ≡ 0) ⊎ Done image lists q
unfolding initial_byte
covered image lists w q a at =
    let chosen : (b : Bool) → (nat_le INPUT_START a && nat_lt a INPUT_END) ≡ b → (cond b (window_byte image.input (a - INPUT_START)) (segment_byte image.segments a) ≡ 0) ⊎ Done image lists q =
    λ b. elim b as (λ v. (nat_le INPUT_START a && nat_lt a INPUT_END) ≡ v → (cond v (window_byte image.input (a - INPUT_START)) (segment_byte image.segments a) ≡ 0) ⊎ Done image lists q) [
      | true ↦ λ e. window_covered image lists q w.input a at (in_window a e)
      | false ↦ λ e. segments_covered image lists q image.segments w.segments a at
    ] in
    chosen (nat_le INPUT_START a && nat_lt a INPUT_END) refl

zero_word : (image : Img) (q : ℕ) → ((i : ℕ) → i < 8 → initial_byte image (8 * q + i) ≡ 0) → initial_word image q ≡ 0
unfolding initial_word
zero_word image q h =
    let e : 8 * q + 0 ≡ 8 * q = omega arith in
    let first : initial_byte image (8 * q) ≡ 0 = ap (initial_byte image) (sym e) ∙ h 0 (omega arith) in
    rw (first, h 1 (omega arith), h 2 (omega arith), h 3 (omega arith), h 4 (omega arith), h 5 (omega arith), h 6 (omega arith), h 7 (omega arith)) refl

-- all of the first are so, or the other is
each : (P : ℕ → Type 0) (D : Type 0) → ((i : ℕ) → i < 8 → P i ⊎ D) → (n : ℕ) → n ≤ 8 → ((i : ℕ) → i < n → P i) ⊎ D
each P D h zero le = inl (λ i lt. absurd (omega arith))
each P D h (suc n) le =
    ⊎_elim (λ all. ⊎_elim (λ p. inl (λ i lt. ⊎_elim (λ below. all i below) (λ from. let e : n ≡ i = omega arith in subst P e p) (cases_lt i n))) (λ d. inr d) (h n (omega arith))) (λ d. inr d) (each P D h n (omega arith))

pub all_begun : (image : Img) (old lists : List (ℕ × List Access)) (n i : ℕ) (items : List Seg) → ((j : ℕ) (d : Seg) → j < i → IsWritten image old (get_or items j d)) → length items ≤ i → items ≡ image.segments
    → n ≡ length image.input → Writes image old lists 0x0800_0000 (0x0800_0000 + n / 8 + 2) → KeepsTo image 0 lists
all_begun image old lists n i items written le e many w =
    let are : AreWritten image lists = record {
      segments = λ j d lt k low high. w.still k (let same = ap (λ (l : List Seg). get_or l j d) e in subst (IsWritten image old) same (written j d (let l = ap (length {A = Seg}) e in omega arith)) k low high);
      input = λ k low high. w.done k low (subst (λ m. k < 0x0800_0000 + m / 8 + 2) (sym many) high);
    } in
    begun image lists w.part (λ q low. ⊎_elim (λ zeros. inl (zero_word image q zeros)) (λ d. inr d) (each (λ i. initial_byte image (8 * q + i) ≡ 0) (Done image lists q) (λ i lt. covered image lists are q (8 * q + i) (omega arith)) 8 (omega arith)))
