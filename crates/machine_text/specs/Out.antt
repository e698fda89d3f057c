-- The namespace Out: the exit code and the output window as they stand at the end.
use Rattle.std.specs.Prelude.{ℕ, false, List, [], ◌∷◌, None, codes}
use Rattle.pil_ast.specs.Term.{Term, num, col, Tuples, Line, constant, commit, published, Namespace}
use Rattle.machine_text.specs.Words.{rows_with}

abbrev pub here : ℕ
here = 8

abbrev pub SEL : Term
SEL = col here 0 false

abbrev pub KEY : Term
KEY = col here 1 false

abbrev pub lo : Term
lo = col here 2 false

abbrev pub hi : Term
hi = col here 3 false

-- the reads at the end, at time 2^35
abbrev pub reads : Tuples
reads = rows_with here SEL (KEY ∷ num 34359738368 ∷ num 0 ∷ lo ∷ hi ∷ [])

abbrev pub items : List Line
items =
    constant (codes "SEL") None ∷
    constant (codes "KEY") None ∷
    commit (codes "lo") None ∷
    commit (codes "hi") None ∷
    published (codes "l0") here 2 0 ∷ published (codes "h0") here 3 0 ∷
    published (codes "l1") here 2 1 ∷ published (codes "h1") here 3 1 ∷
    published (codes "l2") here 2 2 ∷ published (codes "h2") here 3 2 ∷
    published (codes "l3") here 2 3 ∷ published (codes "h3") here 3 3 ∷
    published (codes "l4") here 2 4 ∷ published (codes "h4") here 3 4 ∷
    published (codes "l5") here 2 5 ∷ published (codes "h5") here 3 5 ∷
    published (codes "l6") here 2 6 ∷ published (codes "h6") here 3 6 ∷
    published (codes "l7") here 2 7 ∷ published (codes "h7") here 3 7 ∷
    published (codes "l8") here 2 8 ∷ published (codes "h8") here 3 8 ∷
    published (codes "l9") here 2 9 ∷ published (codes "h9") here 3 9 ∷
    published (codes "l10") here 2 10 ∷ published (codes "h10") here 3 10 ∷
    published (codes "l11") here 2 11 ∷ published (codes "h11") here 3 11 ∷
    published (codes "l12") here 2 12 ∷ published (codes "h12") here 3 12 ∷
    published (codes "l13") here 2 13 ∷ published (codes "h13") here 3 13 ∷
    published (codes "l14") here 2 14 ∷ published (codes "h14") here 3 14 ∷
    published (codes "l15") here 2 15 ∷ published (codes "h15") here 3 15 ∷
    published (codes "l16") here 2 16 ∷ published (codes "h16") here 3 16 ∷
    published (codes "l17") here 2 17 ∷ published (codes "h17") here 3 17 ∷
    published (codes "l18") here 2 18 ∷ published (codes "h18") here 3 18 ∷
    published (codes "l19") here 2 19 ∷ published (codes "h19") here 3 19 ∷
    published (codes "l20") here 2 20 ∷ published (codes "h20") here 3 20 ∷
    published (codes "l21") here 2 21 ∷ published (codes "h21") here 3 21 ∷
    published (codes "l22") here 2 22 ∷ published (codes "h22") here 3 22 ∷
    published (codes "l23") here 2 23 ∷ published (codes "h23") here 3 23 ∷
    published (codes "l24") here 2 24 ∷ published (codes "h24") here 3 24 ∷
    published (codes "l25") here 2 25 ∷ published (codes "h25") here 3 25 ∷
    published (codes "l26") here 2 26 ∷ published (codes "h26") here 3 26 ∷
    published (codes "l27") here 2 27 ∷ published (codes "h27") here 3 27 ∷
    published (codes "l28") here 2 28 ∷ published (codes "h28") here 3 28 ∷
    published (codes "l29") here 2 29 ∷ published (codes "h29") here 3 29 ∷
    published (codes "l30") here 2 30 ∷ published (codes "h30") here 3 30 ∷
    published (codes "l31") here 2 31 ∷ published (codes "h31") here 3 31 ∷
    published (codes "l32") here 2 32 ∷ published (codes "h32") here 3 32 ∷ []

abbrev pub space : Namespace
space = record { name = codes "Out"; rows = 64; items = items }
