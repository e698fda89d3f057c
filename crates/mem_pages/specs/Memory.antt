-- The emulator's memory: the pages that were written, over the image's initial doublewords.
use Rattle.std.specs.Prelude.{ℕ, ◌/◌, ◌%◌, List, Option, None, slice_index, slice_index_or}
use Rattle.std.specs.Option.{option_map_or}
use Rattle.rv_model.specs.Image.{Img, initial_word}

-- the image, and by its number each page that was made, as its 512 doublewords
pub record Paged : Type 0 where
  pub image : Img
  pub pages : List (Option (List ℕ))

-- the doubleword with this number: that of its page, or the image's
unfoldable pub word_of : Paged → ℕ → ℕ
word_of m k = option_map_or (λ page. slice_index page (k % 512)) (slice_index_or m.pages (k / 512) None) (initial_word m.image k)
