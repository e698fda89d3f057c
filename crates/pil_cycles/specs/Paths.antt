-- Paths along a relation between numbers.
use Rattle.std.specs.Prelude.{ℕ, ◌≡◌, ◌⊎◌, List}
use Rattle.pil_ast.specs.Term.{Line, inter_at}
use Rattle.pil_ast.specs.Sound.{Names}

-- a path from a number to another, of one step or more
pub data Path (E : ℕ → ℕ → Type 0) : ℕ → ℕ → Type 0 where
  step : (a b : ℕ) → E a b → Path E a b
  walk : (a b c : ℕ) → E a b → Path E b c → Path E a c

-- such a path, or none where they are equal
abbrev pub Reaches : (ℕ → ℕ → Type 0) → ℕ → ℕ → Type 0
Reaches E a b = (a ≡ b) ⊎ Path E a b

-- the intermediate a names b
abbrev pub NamesAt : List Line → ℕ → ℕ → Type 0
NamesAt items a b = Names (inter_at items a) b
