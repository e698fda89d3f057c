-- What is found of an image's rows on the way: words for the contracts of private functions.
use Rattle.std.specs.Prelude.{◌≡◌, ℕ, ◌+◌, ◌*◌, ◌/◌, ◌<◌, ◌≤◌, List, length}
use Rattle.std.specs.List.{filter_map, range_with_len}
use Rattle.rv_model.specs.Image.{Img, Seg, initial_word}
use Rattle.step_rows.specs.declared.doubleword.Doubleword.{Doubleword}
use Rattle.step_rows.specs.declared.rom_row.RomRow.{RomRow}
use Rattle.step_rows.specs.Initial.{unless_zero}
use Rattle.step_rows.specs.Rom.{row_at}
use Rattle.image_rows.specs.declared.initial.TheConstants.{INPUT_INDEX}

-- the doublewords below n that aren't 0
unfoldable pub doublewords_below : Img → ℕ → List Doubleword
doublewords_below image n = filter_map (λ k. unless_zero k (initial_word image k)) (range_with_len 0 n)

abbrev pub HasAllDoublewords : Img → List Doubleword → ℕ → Type 0
HasAllDoublewords image found n = found ≡ doublewords_below image n

abbrev pub IsZeroBetween : Img → ℕ → ℕ → Type 0
IsZeroBetween image from to = (k : ℕ) → from ≤ k → k < to → initial_word image k ≡ 0

-- the doublewords that have bytes of a segment's file part are those from the first up to the end
abbrev pub first_doubleword : Seg → ℕ
first_doubleword s = s.start / 8

abbrev pub end_doubleword : Seg → ℕ
end_doubleword s = (s.start + length s.bytes + 7) / 8

abbrev pub end_of_input : Img → ℕ
end_of_input image = INPUT_INDEX + (length image.input + 15) / 8

-- the rows of the first n words of memory
unfoldable pub rows_below : Img → ℕ → List RomRow
rows_below image n = filter_map (λ k. row_at image (4 * k)) (range_with_len 0 n)

abbrev pub HasAllRows : Img → List RomRow → ℕ → Type 0
HasAllRows image found n = found ≡ rows_below image n

-- the words that have bytes of a segment's file part are among those from the first up to the end
abbrev pub first_word : Seg → ℕ
first_word s = (s.start + 3) / 4

abbrev pub end_word : Seg → ℕ
end_word s = (s.start + length s.bytes + 3) / 4
