-- Intermediates that depend on themselves.
use Rattle.std.specs.Prelude.{ℕ, ◌≤◌, ◌≡◌, ◌↔◌, Bool, true, List, length, Some, slice_get}
use Rattle.pil_ast.specs.Term.{Line, inter_at}
use Rattle.pil_ast.specs.Sound.{Names}

-- the intermediate a names b, or one that depends on b
pub data DependsOn (items : List Line) : ℕ → ℕ → Type 0 where
  on_named : (a b : ℕ) → Names (inter_at items a) b → DependsOn items a b
  on_deeper : (a b c : ℕ) → Names (inter_at items a) b → DependsOn items b c → DependsOn items a c

abbrev pub IsOnCycle : List Line → ℕ → Type 0
IsOnCycle items k = DependsOn items k k

-- the least item that depends on itself
pub record IsLeastOnCycle (items : List Line) (k : ℕ) : Type 0 where
  pub on_cycle : IsOnCycle items k
  pub least : (j : ℕ) → IsOnCycle items j → k ≤ j

-- each flag tells whether its item depends on itself
pub record TellCycles (items : List Line) (flags : List Bool) : Type 0 where
  pub long : length flags ≡ length items
  pub each : (k : ℕ) → (slice_get flags k ≡ Some true) ↔ IsOnCycle items k
