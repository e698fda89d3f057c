-- What an image of one segment of words fetches.
use Rattle.std.proofs.Common.{◌≡◌, ◌==◌, ◌+◌, ◌-◌, ◌*◌, ◌%◌, ◌^◌, ◌<◌, ℕ, suc, true, Some, List, [], ◌∷◌, ◌++◌, length, All, slice_index, refl, ap, sym, ◌∙◌, arith}
use Rattle.std.specs.List.{flat_map}
use Rattle.std.specs.Int.{from_le_bytes, w32}
use Rattle.std.proofs.lemmas.Bool.{eq-eqb}
use Rattle.std.proofs.lemmas.Bool.Decides.{nat_tests}
use Rattle.std.proofs.lemmas.List.{append_assoc, get_or-append-add, length-append}
use Rattle.std.proofs.lemmas.Nat.{from_le_bytes-to_le_bytes_4}
use Rattle.rv_word.specs.declared.instr.Instr.{Instr}
use Rattle.rv_word.specs.Is.{Is, decoded}
use Rattle.rv_word.specs.Encoding.{encoding}
use Rattle.rv_model.specs.Image.{Img, Seg, fetch, runs_at, word_in, byte_in}
use Rattle.demo_program.specs.Tiny.{word}
use Rattle.demo_program.specs.Tiny as tiny
use Rattle.demo_program.specs.Demo.{words_of, HasWord}
use Rattle.demo_program.proofs.Walk.{Laid, all_first, all_rest}

-- the segment of some words, and the image that begins at its first
abbrev pub seg : List ℕ → Seg
seg words = record { start = tiny.start; len = 4 * length words; exec = true; bytes = flat_map word words }

abbrev pub image_of : List ℕ → Img
image_of words = record { entry = tiny.start; segments = seg words ∷ []; input = [] }

aligned : (j : ℕ) → ((tiny.start + 4 * j) % 4 == 0) ≡ true
aligned j = eq-eqb _ _ (omega arith)

covered : (words : List ℕ) (j : ℕ) → j < length words → runs_at (tiny.start + 4 * j) (seg words) ≡ true
covered words j below = grind (arith, nat_tests)

pub fetch_is : (words : List ℕ) (j : ℕ) → j < length words → fetch (image_of words) (tiny.start + 4 * j) ≡ Some (word_in (seg words) (tiny.start + 4 * j))
unfolding fetch
fetch_is words j below = rw (aligned j, covered words j below) refl

-- byte n of the j-th word
byte_is : (words : List ℕ) (before after : List ℕ) (a n v : ℕ) → flat_map word words ≡ before ++ after → a - tiny.start ≡ length before + n → slice_index after n ≡ v → byte_in (seg words) a ≡ v
byte_is words before after a n v parts place is =
    ap (λ (m : ℕ). slice_index (flat_map word words) m) place ∙ ap (λ (bs : List ℕ). slice_index bs (length before + n)) parts ∙ get_or-append-add before after n 0 ∙ is

word_is : (words before more : List ℕ) (j w : ℕ) → w < 2 ^ 32 → length before ≡ 4 * j → flat_map word words ≡ before ++ (word w ++ more) → word_in (seg words) (tiny.start + 4 * j) ≡ w
word_is words before more j w small len parts =
    let a : ℕ = tiny.start + 4 * j in
    let after : List ℕ = word w ++ more in
    let b0 : byte_in (seg words) a ≡ slice_index after 0 = byte_is words before after a 0 _ parts (omega arith) refl in
    let b1 : byte_in (seg words) (a + 1) ≡ slice_index after 1 = byte_is words before after (a + 1) 1 _ parts (omega arith) refl in
    let b2 : byte_in (seg words) (a + 2) ≡ slice_index after 2 = byte_is words before after (a + 2) 2 _ parts (omega arith) refl in
    let b3 : byte_in (seg words) (a + 3) ≡ slice_index after 3 = byte_is words before after (a + 3) 3 _ parts (omega arith) refl in
    let same : word_in (seg words) a ≡ from_le_bytes w32 (word w) = cc (b0, b1, b2, b3) in
    same ∙ from_le_bytes-to_le_bytes_4 w small

encoding_below : (i : Instr) → encoding i < 2 ^ 32
encoding_below i = omega arith

-- the words of a list of instructions, of which some stand before the place j
pub laid_from : (words before : List ℕ) (is : List Instr) (j : ℕ) → ((w : ℕ) (i : Instr) → Is w i → decoded w ≡ Some i) → All HasWord is → length before ≡ 4 * j → j + length is ≡ length words → flat_map word words ≡ before ++ flat_map word (words_of is) → Laid (image_of words) j is
laid_from words before [] j only all len whole parts = tt
laid_from words before (i ∷ is) j only all len whole parts =
    let has : HasWord i = all_first HasWord i is all in
    let w : ℕ = encoding i in
    let below : j < length words = omega arith in
    let here : word_in (seg words) (tiny.start + 4 * j) ≡ w = word_is words before (flat_map word (words_of is)) j w (encoding_below i) len parts in
    let fetched : fetch (image_of words) (tiny.start + 4 * j) ≡ Some w = fetch_is words j below ∙ ap (λ (n : ℕ). Some n) here in
    let more : flat_map word words ≡ (before ++ word w) ++ flat_map word (words_of is) = parts ∙ sym (append_assoc before (word w) (flat_map word (words_of is))) in
    let longer : length (before ++ word w) ≡ 4 * suc j = omega (arith, length-append before (word w)) in
    (record { word = w; fetched = fetched; decodes = only w i has.0 }, laid_from words (before ++ word w) is (suc j) only (all_rest HasWord i is all) longer (omega arith) more)
