-- The doublewords of memory that aren't 0 when a run starts (docs/WITNESS.md, "Accesses").
use Rattle.std.specs.Prelude.{ℕ, ◌==◌, List, Option, None, Some, if◌then◌else◌}
use Rattle.std.specs.List.{filter_map, range_with_len}
use Rattle.rv_model.specs.Image.{Img, initial_word}
use Rattle.rv_model.specs.declared.machine.TheConstants.{MEMORY_WORDS}
use Rattle.step_rows.specs.declared.doubleword.Doubleword.{Doubleword}

abbrev pub unless_zero : ℕ → ℕ → Option Doubleword
unless_zero k v = if v == 0 then None else Some (record { number = k; value = v })

-- how many doublewords memory has
unfoldable pub doublewords : ℕ
doublewords = MEMORY_WORDS

-- in order of their numbers
unfoldable pub initial_doublewords : Img → List Doubleword
initial_doublewords image = filter_map (λ k. unless_zero k (initial_word image k)) (range_with_len 0 doublewords)
