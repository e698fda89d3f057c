-- The row behind a tuple.
use Rattle.std.specs.Prelude.{ℕ, ◌<◌, ◌≡◌, true, List}
use Rattle.pil_ast.specs.Term.{Tuples, Namespace}
use Rattle.pil_ast.specs.Columns.{Columns}
use Rattle.pil_ast.specs.Holds.{selected, tuple}

-- a selected row whose tuple in the list `a` is t
pub record Sends (ns : List Namespace) (c : Columns) (a : Tuples) (t : List ℕ) : Type 0 where
  pub instance : ℕ
  pub row : ℕ
  pub is_instance : instance < c.instances a.space
  pub is_row : row < c.rows a.space
  pub is_selected : selected ns c a.space instance row a.sel ≡ true
  pub is_tuple : tuple ns c a.space instance row a.terms ≡ t
