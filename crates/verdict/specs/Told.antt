-- The bytes that the table of Out tells.
use Rattle.std.specs.Prelude.{ℕ, ◌+◌, ◌*◌, ◌%◌, ◌^◌, List, [], slice_index, slice_index_or}
use Rattle.std.specs.List.{flat_map, range_with_len}
use Rattle.std.specs.Int.{to_le_bytes, w64}
use Rattle.gold.specs.declared.instances.Table.{Table}
use Rattle.rv_model.specs.declared.answer.Public.{Public}
use Rattle.air_main.specs.Step.{joined}

-- the low 32 bits of the column k at row r
abbrev pub low_at : Table → ℕ → ℕ → ℕ
low_at t k r = slice_index (slice_index_or t.columns k []) r % 2 ^ 32

-- the number whose limbs a row has
abbrev pub told_number : Table → ℕ → ℕ
told_number t r = joined (low_at t 0 r) (low_at t 1 r)

-- the first n doublewords of the output window; x10 stands in the row before them
unfoldable pub told_bytes : Table → ℕ → List ℕ
told_bytes t n = flat_map (λ k. to_le_bytes w64 (told_number t (k + 1))) (range_with_len 0 n)

-- what a table of Out publishes
abbrev pub told_by : Table → Public
told_by t = record { exit = told_number t 0; output = told_bytes t 32 }
