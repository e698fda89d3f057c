-- A small text and its table, for the test: `namespace A(3); pol commit x; x' = x + 1;`.
use Rattle.std.specs.Prelude.{ℕ, true, false, List, [], ◌∷◌, None, slice_index}
use Rattle.pil_ast.specs.Term.{num, col, ◌⊕◌, Line, commit, identity, Namespace}
use Rattle.pil_ast.specs.Columns.{Columns}

abbrev pub small_line : Line
small_line = identity 0 (col 0 0 true) (col 0 0 false ⊕ num 1)

abbrev pub small_items : List Line
small_items = commit [] None ∷ small_line ∷ []

abbrev pub small_text : List Namespace
small_text = record { name = []; rows = 3; items = small_items } ∷ []

-- one instance with three cells
abbrev pub small_columns : List ℕ → Columns
small_columns cells = record { spaces = 1; instances = λ s. 1; width = λ s. 1; rows = λ s. 3; at = λ s i k r. slice_index cells r }
