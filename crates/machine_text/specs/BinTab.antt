-- The namespace BinTab: all pairs of bytes, with their bitwise and.
use Rattle.std.specs.Prelude.{ℕ, false, List, [], ◌∷◌, None, codes}
use Rattle.pil_ast.specs.Term.{Term, col, Line, constant, Namespace}

abbrev pub here : ℕ
here = 2

abbrev pub X : Term
X = col here 0 false

abbrev pub Y : Term
Y = col here 1 false

abbrev pub AND : Term
AND = col here 2 false

abbrev pub items : List Line
items =
    constant (codes "X") None ∷
    constant (codes "Y") None ∷
    constant (codes "AND") None ∷ []

abbrev pub space : Namespace
space = record { name = codes "BinTab"; rows = 65536; items = items }
