-- The namespace ShiftTab: the six shifts by each amount.
use Rattle.std.specs.Prelude.{ℕ, false, List, [], ◌∷◌, None, codes}
use Rattle.pil_ast.specs.Term.{Term, col, Tuples, Line, constant, Namespace}
use Rattle.machine_text.specs.Words.{rows_with}

abbrev pub here : ℕ
here = 3

abbrev pub SEL : Term
SEL = col here 0 false

abbrev pub OP : Term
OP = col here 1 false

abbrev pub S : Term
S = col here 2 false

abbrev pub RT : Term
RT = col here 3 false

abbrev pub AR : Term
AR = col here 4 false

abbrev pub WW : Term
WW = col here 5 false

abbrev pub U0 : Term
U0 = col here 6 false

abbrev pub U1 : Term
U1 = col here 7 false

abbrev pub U2 : Term
U2 = col here 8 false

abbrev pub U3 : Term
U3 = col here 9 false

abbrev pub M : Term
M = col here 10 false

-- a row as Shift looks it up
abbrev pub shift : Tuples
shift = rows_with here SEL (OP ∷ S ∷ RT ∷ AR ∷ WW ∷ U0 ∷ U1 ∷ U2 ∷ U3 ∷ M ∷ [])

abbrev pub items : List Line
items =
    constant (codes "SEL") None ∷
    constant (codes "OP") None ∷
    constant (codes "S") None ∷
    constant (codes "RT") None ∷
    constant (codes "AR") None ∷
    constant (codes "WW") None ∷
    constant (codes "U0") None ∷
    constant (codes "U1") None ∷
    constant (codes "U2") None ∷
    constant (codes "U3") None ∷
    constant (codes "M") None ∷ []

abbrev pub space : Namespace
space = record { name = codes "ShiftTab"; rows = 512; items = items }
