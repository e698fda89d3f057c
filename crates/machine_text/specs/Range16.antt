-- The namespace Range16: the numbers below 65536.
use Rattle.std.specs.Prelude.{ℕ, false, List, [], ◌∷◌, None, codes}
use Rattle.pil_ast.specs.Term.{Term, col, Line, constant, Namespace}

abbrev pub here : ℕ
here = 1

abbrev pub V : Term
V = col here 0 false

abbrev pub items : List Line
items =
    constant (codes "V") None ∷ []

abbrev pub space : Namespace
space = record { name = codes "Range16"; rows = 65536; items = items }
