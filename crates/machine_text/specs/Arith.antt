-- The namespace Arith: a row is a product or a quotient.
use Rattle.std.specs.Prelude.{ℕ, ◌+◌, false, List, [], ◌∷◌, ◌++◌, Some, None, codes}
use Rattle.pil_ast.specs.Term.{Term, num, col, mid, ◌⊕◌, ◌⊖◌, ◌⊗◌, Tuples, Line, commit, inter, identity, lookup, Namespace}
use Rattle.machine_text.specs.Words.{K, M, lo2, hi2, lo2_parts, hi2_parts, all, total, numbered, rows, BIT, R16, each, ◌⊞◌, rows_with}

abbrev pub here : ℕ
here = 12

abbrev is_zero : Term → Line
is_zero e = identity here e (num 0)

abbrev pub sel : Term
sel = col here 0 false

abbrev pub q : ℕ → Term
q k = col here (k + 1) false

abbrev pub a : ℕ → Term
a k = col here (k + 14) false

abbrev pub b : ℕ → Term
b k = col here (k + 18) false

abbrev pub x : ℕ → Term
x k = col here (k + 22) false

abbrev pub y : ℕ → Term
y k = col here (k + 26) false

abbrev pub r : ℕ → Term
r k = col here (k + 30) false

abbrev pub w : ℕ → Term
w k = col here (k + 34) false

abbrev pub cl : ℕ → Term
cl k = col here (k + 42) false

abbrev pub ch : ℕ → Term
ch k = col here (k + 49) false

abbrev pub ta : Term
ta = col here 56 false

abbrev pub ra : Term
ra = col here 57 false

abbrev pub tb : Term
tb = col here 58 false

abbrev pub rb : Term
rb = col here 59 false

abbrev pub ka : Term
ka = col here 60 false

abbrev pub kb : Term
kb = col here 61 false

abbrev pub kn : Term
kn = col here 62 false

abbrev pub n : ℕ → Term
n k = col here (k + 63) false

abbrev pub zb : Term
zb = col here 65 false

abbrev pub g : ℕ → Term
g k = col here (k + 66) false

abbrev pub kg : Term
kg = col here 70 false

abbrev pub z : ℕ → Term
z k = col here (k + 71) false

abbrev pub k1 : Term
k1 = col here 75 false

abbrev pub k2 : Term
k2 = col here 76 false

abbrev pub sw : Term
sw = col here 77 false

abbrev pub rw' : Term
rw' = col here 78 false

abbrev pub op : Term
op = mid here 26 false

abbrev pub alo : Term
alo = mid here 27 false

abbrev pub ahi : Term
ahi = mid here 28 false

abbrev pub blo : Term
blo = mid here 29 false

abbrev pub bhi : Term
bhi = mid here 30 false

abbrev pub ww : Term
ww = mid here 31 false

abbrev pub hi : Term
hi = mid here 32 false

abbrev pub lw : Term
lw = mid here 33 false

abbrev pub dq : Term
dq = mid here 34 false

abbrev pub dr : Term
dr = mid here 35 false

abbrev pub mu : Term
mu = mid here 36 false

abbrev pub dv : Term
dv = mid here 37 false

abbrev pub na : Term
na = mid here 38 false

abbrev pub nb : Term
nb = mid here 39 false

abbrev pub eahi : Term
eahi = mid here 40 false

abbrev pub ebhi : Term
ebhi = mid here 41 false

abbrev pub malo : Term
malo = mid here 42 false

abbrev pub mahi : Term
mahi = mid here 43 false

abbrev pub ylo : Term
ylo = mid here 44 false

abbrev pub yhi : Term
yhi = mid here 45 false

abbrev pub df : Term
df = mid here 46 false

abbrev pub nf : Term
nf = mid here 47 false

abbrev pub vlo : Term
vlo = mid here 48 false

abbrev pub vhi : Term
vhi = mid here 49 false

abbrev pub zlo : Term
zlo = mid here 50 false

abbrev pub zhi : Term
zhi = mid here 51 false

abbrev pub c0 : Term
c0 = mid here 52 false

abbrev pub c1 : Term
c1 = mid here 53 false

abbrev pub c2 : Term
c2 = mid here 54 false

abbrev pub c3 : Term
c3 = mid here 55 false

abbrev pub c4 : Term
c4 = mid here 56 false

abbrev pub c5 : Term
c5 = mid here 57 false

abbrev pub c6 : Term
c6 = mid here 58 false

abbrev pub s : Term
s = mid here 59 false

abbrev pub on : Term
on = mid here 60 false

abbrev pub clo : Term
clo = mid here 61 false

abbrev pub chi : Term
chi = mid here 62 false

-- the operation of a row as Main sends it: its number, the limbs of a, of b and of the value, and the flag
abbrev pub operation : Tuples
operation = rows_with here sel (op ∷ alo ∷ ahi ∷ blo ∷ bhi ∷ clo ∷ chi ∷ num 0 ∷ [])

abbrev pub items : List Line
items =
    commit (codes "sel") None ∷
    commit (codes "q") (Some 13) ∷
    commit (codes "a") (Some 4) ∷
    commit (codes "b") (Some 4) ∷
    commit (codes "x") (Some 4) ∷
    commit (codes "y") (Some 4) ∷
    commit (codes "r") (Some 4) ∷
    commit (codes "w") (Some 8) ∷
    commit (codes "cl") (Some 7) ∷
    commit (codes "ch") (Some 7) ∷
    commit (codes "ta") None ∷
    commit (codes "ra") None ∷
    commit (codes "tb") None ∷
    commit (codes "rb") None ∷
    commit (codes "ka") None ∷
    commit (codes "kb") None ∷
    commit (codes "kn") None ∷
    commit (codes "n") (Some 2) ∷
    commit (codes "zb") None ∷
    commit (codes "g") (Some 4) ∷
    commit (codes "kg") None ∷
    commit (codes "z") (Some 4) ∷
    commit (codes "k1") None ∷
    commit (codes "k2") None ∷
    commit (codes "sw") None ∷
    commit (codes "rw") None ∷
    inter (codes "op") (total (numbered 17 (all 13 q))) ∷
    inter (codes "alo") (lo2 a) ∷
    inter (codes "ahi") (hi2 a) ∷
    inter (codes "blo") (lo2 b) ∷
    inter (codes "bhi") (hi2 b) ∷
    inter (codes "ww") (q 8 ⊕ q 9 ⊕ q 10 ⊕ q 11 ⊕ q 12) ∷
    inter (codes "hi") (q 1 ⊕ q 2 ⊕ q 3) ∷
    inter (codes "lw") (q 0 ⊕ q 8) ∷
    inter (codes "dq") (q 4 ⊕ q 5 ⊕ q 9 ⊕ q 10) ∷
    inter (codes "dr") (q 6 ⊕ q 7 ⊕ q 11 ⊕ q 12) ∷
    inter (codes "mu") (hi ⊕ lw) ∷
    inter (codes "dv") (dq ⊕ dr) ∷
    inter (codes "na") ((q 1 ⊕ q 2 ⊕ q 4 ⊕ q 6 ⊕ q 9 ⊕ q 11) ⊗ ta) ∷
    inter (codes "nb") ((q 1 ⊕ q 4 ⊕ q 6 ⊕ q 9 ⊕ q 11) ⊗ tb) ∷
    inter (codes "eahi") ((num 1 ⊖ ww) ⊗ ahi ⊕ ww ⊗ na ⊗ M) ∷
    inter (codes "ebhi") ((num 1 ⊖ ww) ⊗ bhi ⊕ ww ⊗ nb ⊗ M) ∷
    inter (codes "malo") (mu ⊗ lo2 x ⊕ dv ⊗ lo2 w) ∷
    inter (codes "mahi") (mu ⊗ hi2 x ⊕ dv ⊗ hi2 w) ∷
    inter (codes "ylo") (lo2 y) ∷
    inter (codes "yhi") (hi2 y) ∷
    inter (codes "df") (na ⊕ nb ⊖ num 2 ⊗ na ⊗ nb) ∷
    inter (codes "nf") ((hi ⊕ dq) ⊗ df ⊕ dr ⊗ na) ∷
    inter (codes "vlo") (hi ⊗ (w 4 ⊕ num 65536 ⊗ w 5) ⊕ lw ⊗ lo2 w ⊕ dq ⊗ lo2 x ⊕ dr ⊗ lo2 r) ∷
    inter (codes "vhi") (hi ⊗ (w 6 ⊕ num 65536 ⊗ w 7) ⊕ lw ⊗ hi2 w ⊕ dq ⊗ hi2 x ⊕ dr ⊗ hi2 r) ∷
    inter (codes "zlo") (lo2 z) ∷
    inter (codes "zhi") (hi2 z) ∷
    inter (codes "c0") (cl 0 ⊕ num 65536 ⊗ ch 0) ∷
    inter (codes "c1") (cl 1 ⊕ num 65536 ⊗ ch 1) ∷
    inter (codes "c2") (cl 2 ⊕ num 65536 ⊗ ch 2) ∷
    inter (codes "c3") (cl 3 ⊕ num 65536 ⊗ ch 3) ∷
    inter (codes "c4") (cl 4 ⊕ num 65536 ⊗ ch 4) ∷
    inter (codes "c5") (cl 5 ⊕ num 65536 ⊗ ch 5) ∷
    inter (codes "c6") (cl 6 ⊕ num 65536 ⊗ ch 6) ∷
    inter (codes "s") (w 0 ⊕ w 1 ⊕ w 2 ⊕ w 3) ∷
    inter (codes "on") (sel ⊗ (num 1 ⊖ dq ⊗ zb)) ∷
    inter (codes "clo") zlo ∷
    inter (codes "chi") ((num 1 ⊖ ww) ⊗ zhi ⊕ ww ⊗ sw ⊗ M) ∷
    lookup (rows here (sel ∷ [])) BIT ∷  -- 158
    each here sel (all 13 q) BIT ++  -- 159 to 171
    is_zero (sel ⊗ (total (all 13 q) ⊖ num 1)) ∷  -- 172
    each here sel
    (all 4 a ++ all 4 b ++ all 4 x ++ all 4 y ++ all 4 r ++ all 8 w ++ all 7 cl ++ all 7 ch ++ all 2 n ++ all 4 g
    ++ all 4 z ++ (ra ∷ (num 2 ⊗ ra) ∷ rb ∷ (num 2 ⊗ rb) ∷ rw' ∷ (num 2 ⊗ rw') ∷ [])) R16 ++  -- 173 to 230
    each here sel (ta ∷ tb ∷ ka ∷ kb ∷ kn ∷ zb ∷ kg ∷ k1 ∷ k2 ∷ sw ∷ []) BIT ++  -- 231 to 240
    is_zero (sel ⊗ (ww ⊗ a 1 ⊕ (num 1 ⊖ ww) ⊗ a 3 ⊖ num 32768 ⊗ ta ⊖ ra)) ∷  -- 241
    is_zero (sel ⊗ (ww ⊗ b 1 ⊕ (num 1 ⊖ ww) ⊗ b 3 ⊖ num 32768 ⊗ tb ⊖ rb)) ∷  -- 242
    is_zero (sel ⊗ (na ⊗ (malo ⊕ alo ⊖ K ⊗ ka) ⊕ (num 1 ⊖ na) ⊗ (malo ⊖ alo))) ∷  -- 243
    is_zero (sel ⊗ (na ⊗ (mahi ⊕ eahi ⊕ ka ⊖ K) ⊕ (num 1 ⊖ na) ⊗ (mahi ⊖ eahi))) ∷  -- 244
    is_zero (sel ⊗ (nb ⊗ (ylo ⊕ blo ⊖ K ⊗ kb) ⊕ (num 1 ⊖ nb) ⊗ (ylo ⊖ blo))) ∷  -- 245
    is_zero (sel ⊗ (nb ⊗ (yhi ⊕ ebhi ⊕ kb ⊖ K) ⊕ (num 1 ⊖ nb) ⊗ (yhi ⊖ ebhi))) ∷  -- 246
    is_zero (sel ⊗ mu ⊗ total (all 4 r)) ∷  -- 247
    is_zero (sel ⊗ dv ⊗ (w 4 ⊕ w 5 ⊕ w 6 ⊕ w 7)) ∷  -- 248
    is_zero (sel ⊗ (x 0 ⊗ y 0 ⊕ r 0 ⊖ w 0 ⊖ num 65536 ⊗ c0)) ∷  -- 249
    is_zero (sel ⊗ (x 0 ⊗ y 1 ⊕ x 1 ⊗ y 0 ⊕ r 1 ⊕ c0 ⊖ w 1 ⊖ num 65536 ⊗ c1)) ∷  -- 250
    is_zero (sel ⊗ (x 0 ⊗ y 2 ⊕ x 1 ⊗ y 1 ⊕ x 2 ⊗ y 0 ⊕ r 2 ⊕ c1 ⊖ w 2 ⊖ num 65536 ⊗ c2)) ∷  -- 251
    is_zero (sel ⊗ (x 0 ⊗ y 3 ⊕ x 1 ⊗ y 2 ⊕ x 2 ⊗ y 1 ⊕ x 3 ⊗ y 0 ⊕ r 3 ⊕ c2 ⊖ w 3 ⊖ num 65536 ⊗ c3)) ∷  -- 252
    is_zero (sel ⊗ (x 1 ⊗ y 3 ⊕ x 2 ⊗ y 2 ⊕ x 3 ⊗ y 1 ⊕ c3 ⊖ w 4 ⊖ num 65536 ⊗ c4)) ∷  -- 253
    is_zero (sel ⊗ (x 2 ⊗ y 3 ⊕ x 3 ⊗ y 2 ⊕ c4 ⊖ w 5 ⊖ num 65536 ⊗ c5)) ∷  -- 254
    is_zero (sel ⊗ (x 3 ⊗ y 3 ⊕ c5 ⊖ w 6 ⊖ num 65536 ⊗ c6)) ∷  -- 255
    is_zero (sel ⊗ (c6 ⊖ w 7)) ∷  -- 256
    is_zero (sel ⊗ hi ⊗ (num 1 ⊖ kn) ⊗ s) ∷  -- 257
    is_zero (sel ⊗ hi ⊗ kn ⊗ (s ⊖ num 1 ⊖ lo2 n)) ∷  -- 258
    is_zero (sel ⊗ zb ⊗ total (all 4 y)) ∷  -- 259
    is_zero (sel ⊗ dv ⊗ (num 1 ⊖ zb) ⊗ (lo2 r ⊞ (lo2_parts g) ⊕ num 1 ⊖ ylo ⊖ K ⊗ kg)) ∷  -- 260
    is_zero (sel ⊗ dv ⊗ (num 1 ⊖ zb) ⊗ (hi2 r ⊞ (hi2_parts g) ⊕ kg ⊖ yhi)) ∷  -- 261
    is_zero (on ⊗ (nf ⊗ (vlo ⊕ zlo ⊕ hi ⊗ kn ⊖ K ⊗ k1) ⊕ (num 1 ⊖ nf) ⊗ (zlo ⊖ vlo))) ∷  -- 262
    is_zero (on ⊗ (nf ⊗ (vhi ⊕ zhi ⊕ k1 ⊖ K ⊗ k2) ⊕ (num 1 ⊖ nf) ⊗ (zhi ⊖ vhi))) ∷  -- 263
    is_zero (sel ⊗ dq ⊗ zb ⊗ (zlo ⊖ M)) ∷  -- 264
    is_zero (sel ⊗ dq ⊗ zb ⊗ (zhi ⊖ M)) ∷  -- 265
    is_zero (sel ⊗ (z 1 ⊖ num 32768 ⊗ sw ⊖ rw')) ∷ []  -- 266

abbrev pub space : Namespace
space = record { name = codes "Arith"; rows = 1024; items = items }
