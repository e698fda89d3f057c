-- Which words stand for which instructions.
use Rattle.std.specs.Prelude.{◌≡◌, ◌==◌, ◌&&◌, ◌<◌, ◌^◌, ℕ, Bool, true, List, [], ◌∷◌, Option}
use Rattle.std.specs.List.{Any, find}
use Rattle.std.specs.Option.{option_map}
use Rattle.rv_word.specs.Fields.{bits_at}
use Rattle.rv_word.specs.Table.{Field, rows}
use Rattle.rv_word.specs.declared.instr.Instr.{Instr}

-- the word has each of the fields
abbrev pub Has : ℕ → List Field → Type 0
Has w [] = Unit {0}
Has w (f ∷ fs) = (bits_at f.low f.len w ≡ f.value) × Has w fs

-- the word stands for the instruction: some row has the word's fields, and reads the instruction from it
unfoldable pub Is : ℕ → Instr → Type 0
Is w i = Any (λ r. Has w r.fields × (i ≡ r.instruction w)) rows

-- some word stands for the instruction
abbrev pub Fits : Instr → Type 0
Fits i = (w : ℕ) × (w < 2 ^ 32) × Is w i

-- the same test as `Has`
abbrev pub has : ℕ → List Field → Bool
has w [] = true
has w (f ∷ fs) = (bits_at f.low f.len w == f.value) && has w fs

-- the instruction that the word stands for, if there is one: what the first row with its fields reads
unfoldable pub decoded : ℕ → Option Instr
decoded w = option_map (λ r. r.instruction w) (find (λ r. has w r.fields) rows)
