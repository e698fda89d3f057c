-- The row that a load or a store has in Align (docs/WITNESS.md, "Values").
use Rattle.std.specs.Prelude.{ℕ, ◌+◌, ◌/◌, ◌%◌, List, [], ◌∷◌, ◌++◌}
use Rattle.std.specs.Int.{byte_at, to_le_bytes, w64}
use Rattle.rv_word.specs.declared.instr.Kind.{Kind}
use Rattle.rv_word.specs.declared.instr.Kind.TheVariants as kinds
use Rattle.rv_word.specs.Numbers.{kind_number}
use Rattle.step_rows.specs.Words.{flags}

-- the byte with the sign of what a load reads, where the load copies the sign
abbrev pub highest : Kind → ℕ → ℕ → ℕ
highest kinds.Lb off old = byte_at off old
highest kinds.Lh off old = byte_at (off + 1) old
highest kinds.Lw off old = byte_at (off + 3) old
highest _ off old = 0

-- the row of an access of this kind: the old doubleword and rs2's value by their bytes
abbrev pub align_row : Kind → ℕ → ℕ → ℕ → List ℕ
align_row k off old value =
    1 ∷ flags (kind_number k) 1 11 ++ (flags off 0 8 ++ (to_le_bytes w64 old ++ (to_le_bytes w64 value ++ (highest k off old / 128 ∷ highest k off old % 128 ∷ []))))
