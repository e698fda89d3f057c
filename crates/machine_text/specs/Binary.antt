-- The namespace Binary: a row is a sum, a comparison, a bitwise operation, a shifted sum or a conditional zero.
use Rattle.std.specs.Prelude.{ℕ, ◌+◌, false, List, [], ◌∷◌, ◌++◌, Some, None, codes}
use Rattle.pil_ast.specs.Term.{Term, num, col, mid, ◌⊕◌, ◌⊖◌, ◌⊗◌, Tuples, Line, commit, inter, identity, lookup, Namespace}
use Rattle.machine_text.specs.Words.{K, M, lo4, hi4, lo2, hi2, all, total, numbered, rows, rows_with, BIT, R16, each, for, ◌⊞◌}
use Rattle.machine_text.specs.BinTab

abbrev pub here : ℕ
here = 10

abbrev is_zero : Term → Line
is_zero e = identity here e (num 0)

abbrev pub sel : Term
sel = col here 0 false

abbrev pub q : ℕ → Term
q k = col here (k + 1) false

abbrev pub x : ℕ → Term
x k = col here (k + 11) false

abbrev pub a : ℕ → Term
a k = col here (k + 16) false

abbrev pub b : ℕ → Term
b k = col here (k + 24) false

abbrev pub n : ℕ → Term
n k = col here (k + 32) false

abbrev pub z : ℕ → Term
z k = col here (k + 40) false

abbrev pub k0 : Term
k0 = col here 44 false

abbrev pub k1 : Term
k1 = col here 45 false

abbrev pub j0 : Term
j0 = col here 46 false

abbrev pub j1 : Term
j1 = col here 47 false

abbrev pub sa : Term
sa = col here 48 false

abbrev pub ra : Term
ra = col here 49 false

abbrev pub sb : Term
sb = col here 50 false

abbrev pub rb : Term
rb = col here 51 false

abbrev pub sw : Term
sw = col here 52 false

abbrev pub rw' : Term
rw' = col here 53 false

abbrev pub eq : Term
eq = col here 54 false

abbrev pub e : ℕ → Term
e k = col here (k + 55) false

abbrev pub op : Term
op = mid here 19 false

abbrev pub alo : Term
alo = mid here 20 false

abbrev pub ahi : Term
ahi = mid here 21 false

abbrev pub blo : Term
blo = mid here 22 false

abbrev pub bhi : Term
bhi = mid here 23 false

abbrev pub nlo : Term
nlo = mid here 24 false

abbrev pub nhi : Term
nhi = mid here 25 false

abbrev pub zlo : Term
zlo = mid here 26 false

abbrev pub zhi : Term
zhi = mid here 27 false

abbrev pub mi : Term
mi = mid here 28 false

abbrev pub m : Term
m = mid here 29 false

abbrev pub sh : Term
sh = mid here 30 false

abbrev pub cz : Term
cz = mid here 31 false

abbrev pub kp : Term
kp = mid here 32 false

abbrev pub df : Term
df = mid here 33 false

abbrev pub flag : Term
flag = mid here 34 false

abbrev pub clo : Term
clo = mid here 35 false

abbrev pub chi : Term
chi = mid here 36 false

abbrev pub s : Term
s = mid here 37 false

-- the operation of a row as Main sends it: its number, the limbs of a, of b and of the value, and the flag
abbrev pub operation : Tuples
operation = rows_with here sel (op ∷ alo ∷ ahi ∷ blo ∷ bhi ∷ clo ∷ chi ∷ flag ∷ [])

abbrev pub items : List Line
items =
    commit (codes "sel") None ∷
    commit (codes "q") (Some 10) ∷
    commit (codes "x") (Some 5) ∷
    commit (codes "a") (Some 8) ∷
    commit (codes "b") (Some 8) ∷
    commit (codes "n") (Some 8) ∷
    commit (codes "z") (Some 4) ∷
    commit (codes "k0") None ∷
    commit (codes "k1") None ∷
    commit (codes "j0") None ∷
    commit (codes "j1") None ∷
    commit (codes "sa") None ∷
    commit (codes "ra") None ∷
    commit (codes "sb") None ∷
    commit (codes "rb") None ∷
    commit (codes "sw") None ∷
    commit (codes "rw") None ∷
    commit (codes "eq") None ∷
    commit (codes "e") (Some 2) ∷
    inter (codes "op") (total (numbered 1 (all 10 q)) ⊞ (numbered 30 (all 5 x))) ∷
    inter (codes "alo") (lo4 a) ∷
    inter (codes "ahi") (hi4 a) ∷
    inter (codes "blo") (lo4 b) ∷
    inter (codes "bhi") (hi4 b) ∷
    inter (codes "nlo") (lo4 n) ∷
    inter (codes "nhi") (hi4 n) ∷
    inter (codes "zlo") (lo2 z) ∷
    inter (codes "zhi") (hi2 z) ∷
    inter (codes "mi") (q 1 ⊕ q 2 ⊕ q 3 ⊕ q 4 ⊕ q 9) ∷
    inter (codes "m") (num 1 ⊕ x 0 ⊕ num 3 ⊗ x 1 ⊕ num 7 ⊗ x 2) ∷
    inter (codes "sh") (x 0 ⊕ x 1 ⊕ x 2) ∷
    inter (codes "cz") (x 3 ⊕ x 4) ∷
    inter (codes "kp") (x 3 ⊗ (num 1 ⊖ eq) ⊕ x 4 ⊗ eq) ∷
    inter (codes "df") (sa ⊕ sb ⊖ num 2 ⊗ sa ⊗ sb) ∷
    inter (codes "flag") (q 2 ⊗ k1 ⊕ q 3 ⊗ (df ⊗ sa ⊕ (num 1 ⊖ df) ⊗ k1) ⊕ q 4 ⊗ eq) ∷
    inter (codes "clo")
    ((q 0 ⊕ q 1 ⊕ q 8 ⊕ q 9 ⊕ sh) ⊗ zlo ⊕ flag ⊕ kp ⊗ alo
    ⊕ q 5 ⊗ nlo ⊕ q 6 ⊗ (alo ⊕ blo ⊖ nlo) ⊕ q 7 ⊗ (alo ⊕ blo ⊖ num 2 ⊗ nlo)) ∷
    inter (codes "chi")
    ((q 0 ⊕ q 1 ⊕ sh) ⊗ zhi ⊕ kp ⊗ ahi ⊕ (q 8 ⊕ q 9) ⊗ sw ⊗ M
    ⊕ q 5 ⊗ nhi ⊕ q 6 ⊗ (ahi ⊕ bhi ⊖ nhi) ⊕ q 7 ⊗ (ahi ⊕ bhi ⊖ num 2 ⊗ nhi)) ∷
    inter (codes "s") (total (all 4 z)) ∷
    lookup (rows here (sel ∷ [])) BIT ∷  -- 75
    each here sel (all 10 q ++ all 5 x) BIT ++  -- 76 to 90
    is_zero (sel ⊗ (total (all 10 q) ⊞ (all 5 x) ⊖ num 1)) ∷  -- 91
    for 8 (λ i. lookup (rows_with here sel (a i ∷ b i ∷ n i ∷ [])) (rows BinTab.here (BinTab.X ∷ BinTab.Y ∷ BinTab.AND ∷ []))) ++  -- 92 to 99
    each here sel (all 4 z) R16 ++  -- 100 to 103
    each here sel (k0 ∷ k1 ∷ sa ∷ sb ∷ sw ∷ eq ∷ []) BIT ++  -- 104 to 109
    each here sel
    ((ra ∷ (num 512 ⊗ ra) ∷ rb ∷ (num 512 ⊗ rb) ∷ rw' ∷ (num 2 ⊗ rw') ∷ []) ++ all 2 e ++ (j0 ∷ j1 ∷ [])) R16 ++  -- 110 to 119
    is_zero (sel ⊗ (a 7 ⊖ num 128 ⊗ sa ⊖ ra)) ∷  -- 120
    is_zero (sel ⊗ (b 7 ⊖ num 128 ⊗ sb ⊖ rb)) ∷  -- 121
    is_zero (sel ⊗ (z 1 ⊖ num 32768 ⊗ sw ⊖ rw')) ∷  -- 122
    is_zero (sel ⊗ ((num 1 ⊖ mi) ⊗ (m ⊗ alo ⊕ blo ⊖ zlo ⊖ K ⊗ (k0 ⊕ j0)) ⊕ mi ⊗ (blo ⊕ zlo ⊖ alo ⊖ K ⊗ k0))) ∷  -- 123
    is_zero
    (sel ⊗ ((num 1 ⊖ mi) ⊗ (m ⊗ ahi ⊕ bhi ⊕ k0 ⊕ j0 ⊖ zhi ⊖ K ⊗ (k1 ⊕ j1)) ⊕ mi ⊗ (bhi ⊕ zhi ⊕ k0 ⊖ ahi ⊖ K ⊗ k1))) ∷  -- 124
    is_zero (sel ⊗ q 4 ⊗ eq ⊗ s) ∷  -- 125
    is_zero (sel ⊗ q 4 ⊗ (num 1 ⊖ eq) ⊗ (s ⊖ num 1 ⊖ lo2 e)) ∷  -- 126
    is_zero (sel ⊗ cz ⊗ eq ⊗ total (all 8 b)) ∷  -- 127
    is_zero (sel ⊗ cz ⊗ (num 1 ⊖ eq) ⊗ (total (all 8 b) ⊖ num 1 ⊖ lo2 e)) ∷ []  -- 128

abbrev pub space : Namespace
space = record { name = codes "Binary"; rows = 4096; items = items }
