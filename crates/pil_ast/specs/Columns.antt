-- The values that a constraint text speaks of.
use Rattle.std.specs.Prelude.{ℕ, ◌<◌, ◌≤◌, ◌≡◌, ◌*◌, ◌^◌, List, length}
use Rattle.pil_ast.specs.Term.{Namespace, space_at, width}

-- how many namespaces there are, how many instances, columns and rows each has, and the value of a
-- namespace's column at a row of an instance
pub record Columns : Type 0 where
  pub spaces : ℕ
  pub instances : ℕ → ℕ
  pub width : ℕ → ℕ
  pub rows : ℕ → ℕ
  pub at : ℕ → ℕ → ℕ → ℕ → ℕ

-- the columns have the numbers of columns and rows of a text, and not too many instances
pub record Fits (ns : List Namespace) (c : Columns) : Type 0 where
  pub spaces : c.spaces ≡ length ns
  pub width : (s : ℕ) → s < length ns → c.width s ≡ width (space_at ns s).items
  pub rows : (s : ℕ) → s < length ns → c.rows s ≡ (space_at ns s).rows
  pub instances : (s : ℕ) → s < length ns → c.instances s ≤ 2 ^ 22
  pub in_all : (s : ℕ) → s < length ns → c.instances s * (space_at ns s).rows ≤ 2 ^ 44
