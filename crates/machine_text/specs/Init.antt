-- The namespace Init: the doublewords of memory that are not 0 at the start.
use Rattle.std.specs.Prelude.{ℕ, false, List, [], ◌∷◌, None, codes}
use Rattle.pil_ast.specs.Term.{Term, num, col, Tuples, Line, constant, Namespace}
use Rattle.machine_text.specs.Words.{rows_with}

abbrev pub here : ℕ
here = 5

abbrev pub SEL : Term
SEL = col here 0 false

abbrev pub KEY : Term
KEY = col here 1 false

abbrev pub LO : Term
LO = col here 2 false

abbrev pub HI : Term
HI = col here 3 false

-- the writes of the initial doublewords, at time 0
abbrev pub writes : Tuples
writes = rows_with here SEL (KEY ∷ num 0 ∷ num 1 ∷ LO ∷ HI ∷ [])

abbrev pub items : List Line
items =
    constant (codes "SEL") None ∷
    constant (codes "KEY") None ∷
    constant (codes "LO") None ∷
    constant (codes "HI") None ∷ []

abbrev pub space : Namespace
space = record { name = codes "Init"; rows = 1024; items = items }
