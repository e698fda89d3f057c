-- Two small texts and their tables, for the tests: `namespace A(2); pol commit x, y, s;`, and
-- `s {x} is {y};` or `s {x} in {y};`.
use Rattle.std.specs.Prelude.{ℕ, ◌+◌, ◌*◌, false, List, [], ◌∷◌, Some, None, slice_index}
use Rattle.pil_ast.specs.Term.{col, Tuples, Line, commit, lookup, bus, Namespace}
use Rattle.pil_ast.specs.Columns.{Columns}

abbrev pub small_left : Tuples
small_left = record { space = 0; sel = Some (col 0 2 false); terms = col 0 0 false ∷ [] }

abbrev pub small_right : Tuples
small_right = record { space = 0; sel = None; terms = col 0 1 false ∷ [] }

abbrev pub small_is : Line
small_is = bus (small_left ∷ []) (small_right ∷ [])

abbrev pub small_in : Line
small_in = lookup small_left small_right

abbrev pub small_items : Line → List Line
small_items l = commit [] None ∷ commit [] None ∷ commit [] None ∷ l ∷ []

abbrev pub small_text : Line → List Namespace
small_text l = record { name = []; rows = 2; items = small_items l } ∷ []

-- six cells an instance, column by column
abbrev pub small_columns : List ℕ → ℕ → Columns
small_columns cells n = record { spaces = 1; instances = λ s. n; width = λ s. 3; rows = λ s. 2; at = λ s i k r. slice_index cells (i * 6 + k * 2 + r) }
