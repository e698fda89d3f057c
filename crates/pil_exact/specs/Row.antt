-- What a line says of one row, where the items of its namespace and the row's cells are at hand.
use Rattle.std.specs.Prelude.{ℕ, ◌≡◌, ◌≢◌, true, List, map}
use Rattle.pil_ast.specs.Term.{Tuples, Line, identity, lookup}
use Rattle.pil_ast.specs.Value.{Cells, value}
use Rattle.pil_ast.specs.Holds.{chosen, times}

-- the same as `HoldsAt`: `sent` gives what a list sends
abbrev pub Says : List Line → Cells → (Tuples → List (List ℕ)) → Line → Type 0
Says items x sent (identity s a b) = value items x a ≡ value items x b
Says items x sent (lookup a b) = chosen items x a.sel ≡ true → times (map (value items x) a.terms) (sent b) ≢ 0
Says items x sent _ = Unit {0}
