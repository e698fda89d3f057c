-- A doubleword is 0 before the run if it has no byte of a segment's file part or of the input.
use Rattle.std.proofs.Common.{◌≡◌, ◌==◌, ◌&&◌, ◌+◌, ◌-◌, ◌*◌, ◌/◌, ◌^◌, ◌<◌, ◌≤◌, ◌⊎◌, inl, inr, ⊎_elim, ℕ, zero, suc, Bool, true, false, cond, List, [], ◌∷◌, ◌++◌, length, get_or, Option, None, Some, le-ltb, ltb, refl, ap, sym, ◌∙◌, subst, arith}
use Rattle.std.specs.Prelude.{nat_le, nat_lt, AllPairs}
use Rattle.std.specs.Option.{option_to_list}
use Rattle.std.proofs.lemmas.Bool.{cases_lt, ne_eqb, eq-eqb}
use Rattle.std.proofs.lemmas.Bool.Decides.{nat_tests}
use Rattle.std.proofs.lemmas.List.{get_or_past}
use Rattle.rv_model.specs.Image.{Img, Seg, EndsBefore, has, byte_in, segment_byte, window_byte, initial_byte, initial_word}
use Rattle.rv_model.specs.declared.machine.TheConstants.{INPUT_START, INPUT_END, MEMORY_WORDS}
use Rattle.step_rows.specs.declared.doubleword.Doubleword.{Doubleword}
use Rattle.step_rows.specs.Initial.{doublewords, unless_zero, initial_doublewords}
use Rattle.image_rows.specs.declared.initial.TheConstants.{INPUT_INDEX}
use Rattle.image_rows.specs.Found.{doublewords_below, HasAllDoublewords, IsZeroBetween, first_doubleword, end_doubleword, end_of_input}
use Rattle.image_rows.proofs.Below.{below_more, below_same}
use Rattle.image_rows.proofs.Starts.{starts_after}

-- the doubleword is before those of the segment's file part or after them
abbrev pub IsOffPart : ℕ → Seg → Type 0
IsOffPart k s = (end_doubleword s ≤ k) ⊎ (k < first_doubleword s)

abbrev pub IsOffParts : ℕ → List Seg → Type 0
IsOffParts k segments = (j : ℕ) (d : Seg) → j < length segments → IsOffPart k (get_or segments j d)

abbrev pub IsOffInput : Img → ℕ → Type 0
IsOffInput image k = (end_of_input image ≤ k) ⊎ (k < INPUT_INDEX)

started : (s : Seg) (a : ℕ) → has a s ≡ true → s.start ≤ a
started s a e = grind (arith, nat_tests)

in_part : (k : ℕ) (s : Seg) (a : ℕ) → a / 8 ≡ k → s.start ≤ a → IsOffPart k s → byte_in s a ≡ 0
in_part k s a at le off = ⊎_elim (λ past. get_or_past s.bytes (a - s.start) 0 (omega arith)) (λ before. absurd (omega arith)) off

in_segments : (k : ℕ) (segments : List Seg) → IsOffParts k segments → (a : ℕ) → a / 8 ≡ k → segment_byte segments a ≡ 0
in_segments k [] off a at = refl
in_segments k (s ∷ ss) off a at =
    let rest = in_segments k ss (λ j d lt. off (suc j) d (omega arith)) a at in
    let found : (b : Bool) → has a s ≡ b → segment_byte (s ∷ ss) a ≡ 0 =
    λ b. elim b as (λ v. has a s ≡ v → segment_byte (s ∷ ss) a ≡ 0) [
      | true ↦ λ e. rw e (in_part k s a at (started s a e) (off 0 s (omega arith)))
      | false ↦ λ e. rw e rest
    ] in
    found (has a s) refl

in_input : (image : Img) (k : ℕ) → IsOffInput image k → (a : ℕ) → a / 8 ≡ k → INPUT_START ≤ a → window_byte image.input (a - INPUT_START) ≡ 0
in_input image k off a at le =
    ⊎_elim (λ past. let no : ltb (a - INPUT_START) 8 ≡ false = le-ltb (a - INPUT_START) 8 (omega arith) in rw no (get_or_past image.input (a - INPUT_START - 8) 0 (omega arith)))
    (λ before. absurd (omega arith)) off

in_window : (a : ℕ) → (nat_le INPUT_START a && nat_lt a INPUT_END) ≡ true → INPUT_START ≤ a
in_window a e = grind (arith, nat_tests)

zero_byte : (image : Img) (k : ℕ) → IsOffParts k image.segments → IsOffInput image k → (a : ℕ) → a / 8 ≡ k → initial_byte image a ≡ 0
unfolding initial_byte
zero_byte image k parts input a at =
    let chosen : (b : Bool) → (nat_le INPUT_START a && nat_lt a INPUT_END) ≡ b → cond b (window_byte image.input (a - INPUT_START)) (segment_byte image.segments a) ≡ 0 =
    λ b. elim b as (λ v. (nat_le INPUT_START a && nat_lt a INPUT_END) ≡ v → cond v (window_byte image.input (a - INPUT_START)) (segment_byte image.segments a) ≡ 0) [
      | true ↦ λ e. in_input image k input a at (in_window a e)
      | false ↦ λ e. in_segments k image.segments parts a at
    ] in
    chosen (nat_le INPUT_START a && nat_lt a INPUT_END) refl

pub zero_word : (image : Img) (k : ℕ) → IsOffParts k image.segments → IsOffInput image k → initial_word image k ≡ 0
unfolding initial_word
zero_word image k parts input =
    let h = zero_byte image k parts input in
    rw (h (8 * k) (omega arith), h (8 * k + 1) (omega arith), h (8 * k + 2) (omega arith), h (8 * k + 3) (omega arith), h (8 * k + 4) (omega arith), h (8 * k + 5) (omega arith), h (8 * k + 6) (omega arith), h (8 * k + 7) (omega arith)) refl

-- ---- on the way through the segments
pub record IsPast (image : Img) (items : List Seg) (i below : ℕ) : Type 0 where
  pub same : items ≡ image.segments
  pub ascending : AllPairs EndsBefore items
  pub past : (j : ℕ) (d : Seg) → j < i → end_doubleword (get_or items j d) ≤ below

pub past_of : (image : Img) (items raw : List Seg) (i below : ℕ) → items ≡ raw → raw ≡ image.segments → AllPairs EndsBefore raw → ((j : ℕ) (d : Seg) → j < i → end_doubleword (get_or items j d) ≤ below) → IsPast image items i below
past_of image items raw i below e f up past = record { same = e ∙ f; ascending = let P : List Seg → Type 0 = λ l. AllPairs EndsBefore l in subst P (sym e) up; past = past }

pub past_further : (image : Img) (items : List Seg) (i m n : ℕ) → IsPast image items i m → m ≤ n → IsPast image items i n
past_further image items i m n h le = record { same = h.same; ascending = h.ascending; past = λ j d lt. let p = h.past j d lt in omega arith }

at_segments : (image : Img) (items : List Seg) (k : ℕ) → items ≡ image.segments → IsOffParts k items → IsOffParts k image.segments
at_segments image items k e h = let P : List Seg → Type 0 = λ l. IsOffParts k l in subst P e h

off_parts : (image : Img) (items : List Seg) (i below k : ℕ) (s : Seg) → IsPast image items i below → s ≡ get_or items i s → below ≤ k → k < first_doubleword s → IsOffParts k image.segments
off_parts image items i below k s h is low high =
    at_segments image items k h.same
    (λ j d in'. ⊎_elim (λ before. let p = h.past j d before in inl (omega arith))
    (λ from. let e : s.start ≡ (get_or items i s).start = ap (λ (x : Seg). x.start) is in let le = starts_after items i j s d h.ascending from in' in inr (omega arith)) (cases_lt j i))

-- before the input window, if the next segment is behind it
pub zero_to_input : (image : Img) (items : List Seg) (i below : ℕ) (s : Seg) → IsPast image items i below → s ≡ get_or items i s → INPUT_START ≤ s.start → IsZeroBetween image below INPUT_INDEX
zero_to_input image items i below s h is behind k low high =
    zero_word image k (off_parts image items i below k s h is low (omega arith)) (inr high)

-- before the next segment
pub zero_to_segment : (image : Img) (items : List Seg) (i below : ℕ) (s : Seg) → IsPast image items i below → s ≡ get_or items i s → (end_of_input image ≤ below) ⊎ (s.start < INPUT_START) → IsZeroBetween image below (first_doubleword s)
zero_to_segment image items i below s h is input k low high =
    zero_word image k (off_parts image items i below k s h is low high) (⊎_elim (λ e. inl (omega arith)) (λ e. inr (omega arith)) input)

-- after all segments
pub zero_past : (image : Img) (items : List Seg) (i below : ℕ) → IsPast image items i below → length items ≤ i → (k : ℕ) → below ≤ k → IsOffInput image k → initial_word image k ≡ 0
zero_past image items i below h all k low input =
    zero_word image k (at_segments image items k h.same (λ j d lt. let p = h.past j d (omega arith) in inl (omega arith))) input

-- ---- what is found
pub doubleword_found : (image : Img) (found new : List Doubleword) (n v : ℕ) → HasAllDoublewords image found n → v ≡ initial_word image n → (v ≡ 0 → ⊥) → new ≡ found ++ record { number = n; value = v } ∷ [] → HasAllDoublewords image new (n + 1)
unfolding doublewords_below
doubleword_found image found new n v h is some e =
    let no : (initial_word image n == 0) ≡ false = ne_eqb (initial_word image n) 0 (λ z. some (is ∙ z)) in
    let f : ℕ → Option Doubleword = λ k. unless_zero k (initial_word image k) in
    let one : option_to_list (f n) ≡ record { number = n; value = v } ∷ [] = rw (no, is) refl in
    e ∙ ap (λ l. l ++ record { number = n; value = v } ∷ []) h ∙ sym (below_more f n ∙ ap (λ l. doublewords_below image n ++ l) one)

none_at : (image : Img) (k : ℕ) → initial_word image k ≡ 0 → unless_zero k (initial_word image k) ≡ None
none_at image k z = let yes : (initial_word image k == 0) ≡ true = eq-eqb (initial_word image k) 0 z in rw yes refl

-- where there are only zeros, all are found still
pub doublewords_same : (image : Img) (found : List Doubleword) (m n : ℕ) → m ≤ n → HasAllDoublewords image found m → IsZeroBetween image m n → HasAllDoublewords image found n
unfolding doublewords_below
doublewords_same image found m n le h zeros =
    h ∙ sym (below_same (λ k. unless_zero k (initial_word image k)) m n le (λ k low high. none_at image k (zeros k low high)))

all_below : (image : Img) → initial_doublewords image ≡ doublewords_below image doublewords
unfolding initial_doublewords doublewords_below
all_below image = refl

pub many_doublewords : doublewords ≡ MEMORY_WORDS
unfolding doublewords
many_doublewords = refl

pub all_doublewords : (image : Img) (found : List Doubleword) (n : ℕ) → n ≤ MEMORY_WORDS → HasAllDoublewords image found n → ((k : ℕ) → n ≤ k → initial_word image k ≡ 0) → found ≡ initial_doublewords image
all_doublewords image found n le h zeros =
    let e = many_doublewords in
    doublewords_same image found n doublewords (omega arith) h (λ k low high. zeros k low) ∙ sym (all_below image)

pub no_doublewords : (image : Img) (found : List Doubleword) → found ≡ [] → HasAllDoublewords image found 0
unfolding doublewords_below
no_doublewords image found e = e
