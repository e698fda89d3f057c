-- A word has no row if no executable segment has bytes of the file there.
use Rattle.std.proofs.Common.{◌≡◌, ◌==◌, ◌&&◌, ◌+◌, ◌-◌, ◌*◌, ◌/◌, ◌%◌, ◌^◌, ◌<◌, ◌≤◌, ◌⊎◌, inl, inr, ⊎_elim, ℕ, zero, suc, Bool, true, false, cond, List, [], ◌∷◌, ◌++◌, length, get_or, max, Option, None, Some, refl, ap, sym, ◌∙◌, subst, arith}
use Rattle.std.specs.Prelude.{nat_le, nat_lt, AllPairs, find}
use Rattle.std.specs.Option.{option_to_list, option_map}
use Rattle.std.proofs.lemmas.Bool.{cases_lt, false≢true}
use Rattle.std.proofs.lemmas.Bool.Decides.{nat_tests}
use Rattle.std.proofs.lemmas.List.{get_or_past, get_or_default}
use Rattle.rv_word.specs.Fields.{bits_at}
use Rattle.rv_word.specs.Is.{decoded}
use Rattle.rv_word.specs.Table.{rows}
use Rattle.rv_word.specs.declared.instr.Instr.{Instr}
use Rattle.rv_model.specs.Image.{Img, Seg, EndsBefore, runs_at, covers, byte_in, word_in, fetch}
use Rattle.rv_model.specs.Code.{instr_of}
use Rattle.rv_model.specs.declared.machine.TheConstants.{MEMORY_END}
use Rattle.step_rows.specs.declared.rom_row.RomRow.{RomRow}
use Rattle.step_rows.specs.Rom.{words, row_unless_break, row_at, rom_rows}
use Rattle.image_rows.specs.Found.{rows_below, HasAllRows, first_word, end_word}
use Rattle.image_rows.proofs.Below.{below_more, below_same}
use Rattle.image_rows.proofs.Starts.{starts_after}

-- the word is before those of the segment's file part or after them, or the segment isn't executable
abbrev pub HasNoWord : ℕ → Seg → Type 0
HasNoWord k s = s.exec ≡ true → (end_word s ≤ k) ⊎ (k < first_word s)

runs : (s : Seg) (a : ℕ) → runs_at a s ≡ true → (s.exec ≡ true) × (s.start ≤ a)
runs s a e = (grind (arith, nat_tests), grind (arith, nat_tests))

no_instruction : decoded 0 ≡ None
unfolding decoded rows bits_at
no_instruction = refl

zero_in : (k : ℕ) (s : Seg) → HasNoWord k s → runs_at (4 * k) s ≡ true → word_in s (4 * k) ≡ 0
zero_in k s none e =
    let h = runs s (4 * k) e in
    ⊎_elim
    (λ past.
    let at : (i : ℕ) → byte_in s (4 * k + i) ≡ 0 = λ i. get_or_past s.bytes (4 * k + i - s.start) 0 (omega arith) in
    let first : byte_in s (4 * k) ≡ 0 = get_or_past s.bytes (4 * k - s.start) 0 (omega arith) in
    rw (first, at 1, at 2, at 3) refl)
    (λ before. absurd (omega (arith, h.1))) (none h.0)

in_segments : (k : ℕ) (segments : List Seg) → ((j : ℕ) (d : Seg) → j < length segments → HasNoWord k (get_or segments j d)) → instr_of (option_map (λ s. word_in s (4 * k)) (find (runs_at (4 * k)) segments)) ≡ None
in_segments k [] none = refl
in_segments k (s ∷ ss) none =
    let rest = in_segments k ss (λ j d lt. none (suc j) d (omega arith)) in
    let found : (b : Bool) → runs_at (4 * k) s ≡ b → instr_of (option_map (λ s. word_in s (4 * k)) (cond b (Some s) (find (runs_at (4 * k)) ss))) ≡ None =
    λ b. elim b as (λ v. runs_at (4 * k) s ≡ v → instr_of (option_map (λ s. word_in s (4 * k)) (cond v (Some s) (find (runs_at (4 * k)) ss))) ≡ None) [
      | true ↦ λ e. ap decoded (zero_in k s (none 0 s (omega arith)) e) ∙ no_instruction
      | false ↦ λ e. rest
    ] in
    found (runs_at (4 * k) s) refl

if_aligned : (b : Bool) (word : Option ℕ) → instr_of word ≡ None → instr_of (cond b word None) ≡ None
if_aligned true word e = e
if_aligned false word e = refl

pub no_row : (image : Img) (k : ℕ) → ((j : ℕ) (d : Seg) → j < length image.segments → HasNoWord k (get_or image.segments j d)) → row_at image (4 * k) ≡ None
unfolding fetch
no_row image k none =
    ap (row_unless_break (4 * k)) (if_aligned (4 * k % 4 == 0) (option_map (λ s. word_in s (4 * k)) (find (runs_at (4 * k)) image.segments)) (in_segments k image.segments none))

-- ---- what is found
pub row_found : (image : Img) (found new : List RomRow) (n : ℕ) (row : Option RomRow) → HasAllRows image found n → row ≡ row_at image (4 * n) → new ≡ found ++ option_to_list row → HasAllRows image new (n + 1)
unfolding rows_below
row_found image found new n row h is e =
    e ∙ ap (λ l. l ++ option_to_list row) h ∙ ap (λ o. rows_below image n ++ option_to_list o) is ∙ sym (below_more (λ k. row_at image (4 * k)) n)

pub rows_same : (image : Img) (found : List RomRow) (m n : ℕ) → m ≤ n → HasAllRows image found m → ((k : ℕ) → m ≤ k → k < n → row_at image (4 * k) ≡ None) → HasAllRows image found n
unfolding rows_below
rows_same image found m n le h none = h ∙ sym (below_same (λ k. row_at image (4 * k)) m n le none)

all_below : (image : Img) → rom_rows image ≡ rows_below image words
unfolding rom_rows rows_below
all_below image = refl

pub many_words : words ≡ 2 ^ 30
unfolding words
many_words = refl

pub all_rows : (image : Img) (found : List RomRow) (n : ℕ) → n ≤ 2 ^ 30 → HasAllRows image found n → ((k : ℕ) → n ≤ k → row_at image (4 * k) ≡ None) → found ≡ rom_rows image
all_rows image found n le h none =
    let e = many_words in
    rows_same image found n words (omega arith) h (λ k low high. none k low) ∙ sym (all_below image)

pub no_rows : (image : Img) (found : List RomRow) → found ≡ [] → HasAllRows image found 0
unfolding rows_below
no_rows image found e = e

-- ---- on the way through the segments
pub record IsPast (image : Img) (items : List Seg) (i below : ℕ) : Type 0 where
  pub same : items ≡ image.segments
  pub ascending : AllPairs EndsBefore items
  pub past : (j : ℕ) (d : Seg) → j < i → (get_or items j d).exec ≡ true → end_word (get_or items j d) ≤ below
  pub before : (j : ℕ) (d : Seg) → i ≤ j → j < length items → below ≤ first_word (get_or items j d)

no_row_at : (image : Img) (items : List Seg) (k : ℕ) → items ≡ image.segments → ((j : ℕ) (d : Seg) → j < length items → HasNoWord k (get_or items j d)) → row_at image (4 * k) ≡ None
no_row_at image items k e h =
    let P : List Seg → Type 0 = λ l. (j : ℕ) (d : Seg) → j < length l → HasNoWord k (get_or l j d) in
    no_row image k (subst P e h)

module _ (image : Img) (items : List Seg) (i below : ℕ) (h : IsPast image items i below) where
  -- after all segments
  pub none_past : length items ≤ i → (k : ℕ) → below ≤ k → row_at image (4 * k) ≡ None
  none_past all k low = no_row_at image items k h.same (λ j d lt exec. let p = h.past j d (omega arith) exec in inl (omega arith))

  module _ (s : Seg) (lt : i < length items) (is : s ≡ get_or items i s) where
    starts : (j : ℕ) (d : Seg) → i ≤ j → j < length items → s.start ≤ (get_or items j d).start
    starts j d from in' =
        let e : s.start ≡ (get_or items i s).start = ap (λ (x : Seg). x.start) is in
        let le = starts_after items i j s d h.ascending from in' in omega arith

    at_i : (j : ℕ) (d : Seg) → j ≡ i → get_or items j d ≡ s
    at_i j d e = ap (λ k. get_or items k d) e ∙ get_or_default items i d s lt ∙ sym is

    -- before the next segment
    pub none_to_segment : (k : ℕ) → below ≤ k → k < first_word s → row_at image (4 * k) ≡ None
    none_to_segment k low high =
        no_row_at image items k h.same (λ j d in' exec. ⊎_elim (λ before. let p = h.past j d before exec in inl (omega arith)) (λ from. let le = starts j d from in' in inr (omega arith)) (cases_lt j i))

    pub below_first : below ≤ first_word s
    below_first = let b = h.before i s (omega arith) lt in let e : (get_or items i s).start ≡ s.start = ap (λ (x : Seg). x.start) (sym is) in omega arith

    -- with the segment
    pub past_executable : length s.bytes ≤ s.len → IsPast image items (i + 1) (max (first_word s) (end_word s))
    past_executable fits = record {
      same = h.same;
      ascending = h.ascending;
      past = λ j d in' exec. ⊎_elim (λ less. let p = h.past j d less exec in let b = below_first in omega arith)
          (λ from. let e : end_word (get_or items j d) ≡ end_word s = ap end_word (at_i j d (omega arith)) in omega arith) (cases_lt j i);
      before = λ j d from in'.
          let a : (get_or items i d).start + (get_or items i d).len ≤ (get_or items j d).start = h.ascending i j d (omega arith) in' in
          let e : (get_or items i d).start + (get_or items i d).len ≡ s.start + s.len = ap (λ (x : Seg). x.start + x.len) (at_i i d refl) in
          omega arith;
    }

    pub past_other : s.exec ≡ false → IsPast image items (i + 1) below
    past_other off = record {
      same = h.same;
      ascending = h.ascending;
      past = λ j d in' exec. ⊎_elim (λ less. h.past j d less exec)
          (λ from. let e : (get_or items j d).exec ≡ s.exec = ap (λ (x : Seg). x.exec) (at_i j d (omega arith)) in absurd (false≢true (sym off ∙ sym e ∙ exec))) (cases_lt j i);
      before = λ j d from in'. h.before j d (omega arith) in';
    }
