-- The namespace Rom: the decoded instructions of the program.
use Rattle.std.specs.Prelude.{ℕ, false, List, [], ◌∷◌, None, codes}
use Rattle.pil_ast.specs.Term.{Term, col, Tuples, Line, constant, Namespace}
use Rattle.machine_text.specs.Words.{rows_with}

abbrev pub here : ℕ
here = 4

abbrev pub SEL : Term
SEL = col here 0 false

abbrev pub PC : Term
PC = col here 1 false

abbrev pub RS1 : Term
RS1 = col here 2 false

abbrev pub RS2 : Term
RS2 = col here 3 false

abbrev pub RD : Term
RD = col here 4 false

abbrev pub OP : Term
OP = col here 5 false

abbrev pub ILO : Term
ILO = col here 6 false

abbrev pub IHI : Term
IHI = col here 7 false

abbrev pub KLO : Term
KLO = col here 8 false

abbrev pub KHI : Term
KHI = col here 9 false

abbrev pub JT : Term
JT = col here 10 false

abbrev pub KIND : Term
KIND = col here 11 false

abbrev pub BI : Term
BI = col here 12 false

abbrev pub WR : Term
WR = col here 13 false

abbrev pub LD : Term
LD = col here 14 false

abbrev pub ST : Term
ST = col here 15 false

abbrev pub JR : Term
JR = col here 16 false

abbrev pub JP : Term
JP = col here 17 false

abbrev pub BR : Term
BR = col here 18 false

abbrev pub INV : Term
INV = col here 19 false

abbrev pub HALT : Term
HALT = col here 20 false

abbrev pub UW : Term
UW = col here 21 false

-- a row as Main looks it up
abbrev pub instruction : Tuples
instruction =
    rows_with here SEL
    (PC ∷ RS1 ∷ RS2 ∷ RD ∷ OP ∷ ILO ∷ IHI ∷ KLO ∷ KHI ∷ JT ∷ KIND ∷
    BI ∷ WR ∷ LD ∷ ST ∷ JR ∷ JP ∷ BR ∷ INV ∷ HALT ∷ UW ∷ [])

abbrev pub items : List Line
items =
    constant (codes "SEL") None ∷
    constant (codes "PC") None ∷
    constant (codes "RS1") None ∷
    constant (codes "RS2") None ∷
    constant (codes "RD") None ∷
    constant (codes "OP") None ∷
    constant (codes "ILO") None ∷
    constant (codes "IHI") None ∷
    constant (codes "KLO") None ∷
    constant (codes "KHI") None ∷
    constant (codes "JT") None ∷
    constant (codes "KIND") None ∷
    constant (codes "BI") None ∷
    constant (codes "WR") None ∷
    constant (codes "LD") None ∷
    constant (codes "ST") None ∷
    constant (codes "JR") None ∷
    constant (codes "JP") None ∷
    constant (codes "BR") None ∷
    constant (codes "INV") None ∷
    constant (codes "HALT") None ∷
    constant (codes "UW") None ∷ []

abbrev pub space : Namespace
space = record { name = codes "Rom"; rows = 1024; items = items }
