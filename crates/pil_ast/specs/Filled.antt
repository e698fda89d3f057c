-- What the values of a row are.
use Rattle.std.specs.Prelude.{ℕ, ◌<◌, ◌≤◌, ◌≡◌, false, true, List, length, slice_get, slice_index, Some}
use Rattle.pil_ast.specs.declared.turns.Turn.{Turn}
use Rattle.pil_ast.specs.declared.values.RowValues.{RowValues}
use Rattle.pil_ast.specs.Term.{mid, Namespace, item_at, inter_at, space_at, publics}
use Rattle.pil_ast.specs.Columns.{Columns}
use Rattle.pil_ast.specs.Value.{value_in}
use Rattle.pil_ast.specs.Written.{marked}
use Rattle.pil_ast.specs.Sound.{IsInter}
use Rattle.pil_ast.specs.Turns.{IsPlan}

-- each namespace has its plan
pub record ArePlans (ns : List Namespace) (plans : List (List Turn)) : Type 0 where
  pub long : length plans ≡ length ns
  pub each : (s : ℕ) (turns : List Turn) → slice_get plans s ≡ Some turns → IsPlan (space_at ns s).items turns

-- the values were made of this text
pub record IsMadeOf (ns : List Namespace) (v : RowValues) : Type 0 where
  pub publics : v.publics ≡ publics ns
  pub plans : ArePlans ns v.plans
  pub room : (s : ℕ) → s < length ns → length (space_at ns s).items ≤ length v.here
  pub as_long : length v.next ≡ length v.here

-- two lists have the values of the intermediates of the namespace s at row r of instance i, and at
-- the next row of those that have no mark when they are written out
pub record AreFilled (ns : List Namespace) (c : Columns) (s i r : ℕ) (at_row at_next : List ℕ) : Type 0 where
  pub here : (k : ℕ) → k < length (space_at ns s).items → IsInter (item_at (space_at ns s).items k) → slice_index at_row k ≡ value_in ns c s i r (mid s k false)
  pub next : (k : ℕ) → k < length (space_at ns s).items → IsInter (item_at (space_at ns s).items k) → marked (space_at ns s).items (inter_at (space_at ns s).items k) ≡ false → slice_index at_next k ≡ value_in ns c s i r (mid s k true)

-- the values are those of the namespace s at row r of instance i
pub record IsFilled (ns : List Namespace) (c : Columns) (s i r : ℕ) (v : RowValues) : Type 0 where
  pub space : v.space ≡ s
  pub values : AreFilled ns c s i r v.here v.next
