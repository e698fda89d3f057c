-- The namespace Align: a row is a load or a store in its doubleword.
use Rattle.std.specs.Prelude.{ℕ, zero, suc, ◌+◌, false, List, [], ◌∷◌, ◌++◌, Some, None, codes}
use Rattle.pil_ast.specs.Term.{Term, num, col, mid, ◌⊕◌, ◌⊖◌, ◌⊗◌, Tuples, Line, commit, inter, identity, lookup, Namespace}
use Rattle.machine_text.specs.Words.{M, lo4, hi4, all, total, numbered, rows, rows_with, BIT, R16, each, for}
use Rattle.machine_text.specs.BinTab

abbrev pub here : ℕ
here = 9

abbrev is_zero : Term → Line
is_zero e = identity here e (num 0)

abbrev pub sel : Term
sel = col here 0 false

abbrev pub q : ℕ → Term
q k = col here (k + 1) false

abbrev pub f : ℕ → Term
f k = col here (k + 12) false

abbrev pub o : ℕ → Term
o k = col here (k + 20) false

abbrev pub v : ℕ → Term
v k = col here (k + 28) false

abbrev pub ts : Term
ts = col here 36 false

abbrev pub rs : Term
rs = col here 37 false

abbrev pub kind : Term
kind = mid here 7 false

abbrev pub off : Term
off = mid here 8 false

abbrev pub olo : Term
olo = mid here 9 false

abbrev pub ohi : Term
ohi = mid here 10 false

abbrev pub vlo : Term
vlo = mid here 11 false

abbrev pub vhi : Term
vhi = mid here 12 false

abbrev pub e0 : Term
e0 = mid here 13 false

abbrev pub e1 : Term
e1 = mid here 14 false

abbrev pub e2 : Term
e2 = mid here 15 false

abbrev pub e3 : Term
e3 = mid here 16 false

abbrev pub n0 : Term
n0 = mid here 17 false

abbrev pub n1 : Term
n1 = mid here 18 false

abbrev pub n2 : Term
n2 = mid here 19 false

abbrev pub n3 : Term
n3 = mid here 20 false

abbrev pub n4 : Term
n4 = mid here 21 false

abbrev pub n5 : Term
n5 = mid here 22 false

abbrev pub n6 : Term
n6 = mid here 23 false

abbrev pub n7 : Term
n7 = mid here 24 false

abbrev pub st : Term
st = mid here 25 false

abbrev pub mlo : Term
mlo = mid here 26 false

abbrev pub mhi : Term
mhi = mid here 27 false

-- the byte i after a store, with the flag of its half and its place in the half; byte 0 has none before it
abbrev stored : ℕ → Term → ℕ → Term
stored zero half j =
    o 0 ⊕ (q 7 ⊕ q 8) ⊗ f 0 ⊗ (v 0 ⊖ o 0) ⊕ q 9 ⊗ half ⊗ (v j ⊖ o 0) ⊕ q 10 ⊗ (v 0 ⊖ o 0)
stored (suc k) half j =
    o (suc k) ⊕ (q 7 ⊕ q 8) ⊗ f (suc k) ⊗ (v 0 ⊖ o (suc k)) ⊕ q 8 ⊗ f k ⊗ (v 1 ⊖ o (suc k))
    ⊕ q 9 ⊗ half ⊗ (v j ⊖ o (suc k)) ⊕ q 10 ⊗ (v (suc k) ⊖ o (suc k))

-- the load or store of a row as Main sends it: kind, offset, the limbs of the old doubleword, of rs2's value and
-- of what is loaded or stored back
abbrev pub access : Tuples
access = rows_with here sel (kind ∷ off ∷ olo ∷ ohi ∷ vlo ∷ vhi ∷ mlo ∷ mhi ∷ [])

abbrev pub items : List Line
items =
    commit (codes "sel") None ∷
    commit (codes "q") (Some 11) ∷
    commit (codes "f") (Some 8) ∷
    commit (codes "o") (Some 8) ∷
    commit (codes "v") (Some 8) ∷
    commit (codes "ts") None ∷
    commit (codes "rs") None ∷
    inter (codes "kind") (total (numbered 1 (all 11 q))) ∷
    inter (codes "off") (total (numbered 0 (all 8 f))) ∷
    inter (codes "olo") (lo4 o) ∷
    inter (codes "ohi") (hi4 o) ∷
    inter (codes "vlo") (lo4 v) ∷
    inter (codes "vhi") (hi4 v) ∷
    inter (codes "e0")
    (f 0 ⊗ o 0 ⊕ f 1 ⊗ o 1 ⊕ f 2 ⊗ o 2 ⊕ f 3 ⊗ o 3 ⊕ f 4 ⊗ o 4 ⊕ f 5 ⊗ o 5 ⊕ f 6 ⊗ o 6 ⊕ f 7 ⊗ o 7) ∷
    inter (codes "e1") (f 0 ⊗ o 1 ⊕ f 2 ⊗ o 3 ⊕ f 4 ⊗ o 5 ⊕ f 6 ⊗ o 7) ∷
    inter (codes "e2") (f 0 ⊗ o 2 ⊕ f 4 ⊗ o 6) ∷
    inter (codes "e3") (f 0 ⊗ o 3 ⊕ f 4 ⊗ o 7) ∷
    inter (codes "n0") (stored 0 (f 0) 0) ∷
    inter (codes "n1") (stored 1 (f 0) 1) ∷
    inter (codes "n2") (stored 2 (f 0) 2) ∷
    inter (codes "n3") (stored 3 (f 0) 3) ∷
    inter (codes "n4") (stored 4 (f 4) 0) ∷
    inter (codes "n5") (stored 5 (f 4) 1) ∷
    inter (codes "n6") (stored 6 (f 4) 2) ∷
    inter (codes "n7") (stored 7 (f 4) 3) ∷
    inter (codes "st") (q 7 ⊕ q 8 ⊕ q 9 ⊕ q 10) ∷
    inter (codes "mlo")
    ((q 0 ⊕ q 4) ⊗ e0 ⊕ (q 1 ⊕ q 5) ⊗ (e0 ⊕ num 256 ⊗ e1)
    ⊕ (q 2 ⊕ q 6 ⊕ q 3) ⊗ (e0 ⊕ num 256 ⊗ e1 ⊕ num 65536 ⊗ e2 ⊕ num 16777216 ⊗ e3)
    ⊕ q 0 ⊗ ts ⊗ num 4294967040 ⊕ q 1 ⊗ ts ⊗ num 4294901760
    ⊕ st ⊗ (n0 ⊕ num 256 ⊗ n1 ⊕ num 65536 ⊗ n2 ⊕ num 16777216 ⊗ n3)) ∷
    inter (codes "mhi")
    (q 3 ⊗ ohi ⊕ (q 0 ⊕ q 1 ⊕ q 2) ⊗ ts ⊗ M
    ⊕ st ⊗ (n4 ⊕ num 256 ⊗ n5 ⊕ num 65536 ⊗ n6 ⊕ num 16777216 ⊗ n7)) ∷
    lookup (rows here (sel ∷ [])) BIT ∷  -- 38
    each here sel (all 11 q ++ all 8 f) BIT ++  -- 39 to 57
    is_zero (sel ⊗ (total (all 11 q) ⊖ num 1)) ∷  -- 58
    is_zero (sel ⊗ (total (all 8 f) ⊖ num 1)) ∷  -- 59
    is_zero (sel ⊗ (q 1 ⊕ q 5 ⊕ q 8) ⊗ (f 1 ⊕ f 3 ⊕ f 5 ⊕ f 7)) ∷  -- 60
    is_zero (sel ⊗ (q 2 ⊕ q 6 ⊕ q 9) ⊗ (num 1 ⊖ f 0 ⊖ f 4)) ∷  -- 61
    is_zero (sel ⊗ (q 3 ⊕ q 10) ⊗ (num 1 ⊖ f 0)) ∷  -- 62
    is_zero (sel ⊗ (q 0 ⊗ e0 ⊕ q 1 ⊗ e1 ⊕ q 2 ⊗ e3 ⊖ num 128 ⊗ ts ⊖ rs)) ∷  -- 63
    lookup (rows_with here sel (ts ∷ [])) BIT ∷  -- 64
    each here sel (rs ∷ (num 512 ⊗ rs) ∷ []) R16 ++  -- 65 to 66
    for 8 (λ i. lookup (rows_with here sel (o i ∷ v i ∷ [])) (rows BinTab.here (BinTab.X ∷ BinTab.Y ∷ []))) ++ []  -- 67 to 74

abbrev pub space : Namespace
space = record { name = codes "Align"; rows = 2048; items = items }
