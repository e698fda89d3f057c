-- The namespace Shift: a row is a shift.
use Rattle.std.specs.Prelude.{ℕ, ◌+◌, false, List, [], ◌∷◌, ◌++◌, Some, None, codes}
use Rattle.pil_ast.specs.Term.{Term, num, col, mid, ◌⊕◌, ◌⊖◌, ◌⊗◌, Tuples, Line, commit, inter, identity, lookup, Namespace}
use Rattle.machine_text.specs.Words.{M, lo2, hi2, all, rows, rows_with, BIT, R16, each}
use Rattle.machine_text.specs.ShiftTab

abbrev pub here : ℕ
here = 11

abbrev is_zero : Term → Line
is_zero e = identity here e (num 0)

abbrev pub sel : Term
sel = col here 0 false

abbrev pub op : Term
op = col here 1 false

abbrev pub a : ℕ → Term
a k = col here (k + 2) false

abbrev pub bhi : Term
bhi = col here 6 false

abbrev pub s : Term
s = col here 7 false

abbrev pub t : ℕ → Term
t k = col here (k + 8) false

abbrev pub rt : Term
rt = col here 10 false

abbrev pub ar : Term
ar = col here 11 false

abbrev pub ww : Term
ww = col here 12 false

abbrev pub u : ℕ → Term
u k = col here (k + 13) false

abbrev pub m : Term
m = col here 17 false

abbrev pub sb : Term
sb = col here 18 false

abbrev pub xr : Term
xr = col here 19 false

abbrev pub h : ℕ → Term
h k = col here (k + 20) false

abbrev pub l : ℕ → Term
l k = col here (k + 24) false

abbrev pub ws : Term
ws = col here 28 false

abbrev pub rr : Term
rr = col here 29 false

abbrev pub alo : Term
alo = mid here 17 false

abbrev pub ahi : Term
ahi = mid here 18 false

abbrev pub blo : Term
blo = mid here 19 false

abbrev pub f : Term
f = mid here 20 false

abbrev pub e2 : Term
e2 = mid here 21 false

abbrev pub e3 : Term
e3 = mid here 22 false

abbrev pub d0 : Term
d0 = mid here 23 false

abbrev pub d1 : Term
d1 = mid here 24 false

abbrev pub d2 : Term
d2 = mid here 25 false

abbrev pub d3 : Term
d3 = mid here 26 false

abbrev pub x : Term
x = mid here 27 false

abbrev pub r0 : Term
r0 = mid here 28 false

abbrev pub r1 : Term
r1 = mid here 29 false

abbrev pub r2 : Term
r2 = mid here 30 false

abbrev pub r3 : Term
r3 = mid here 31 false

abbrev pub clo : Term
clo = mid here 32 false

abbrev pub chi : Term
chi = mid here 33 false

-- the operation of a row as Main sends it: its number, the limbs of a, of b and of the value, and the flag
abbrev pub operation : Tuples
operation = rows_with here sel (op ∷ alo ∷ ahi ∷ blo ∷ bhi ∷ clo ∷ chi ∷ num 0 ∷ [])

abbrev pub items : List Line
items =
    commit (codes "sel") None ∷
    commit (codes "op") None ∷
    commit (codes "a") (Some 4) ∷
    commit (codes "bhi") None ∷
    commit (codes "s") None ∷
    commit (codes "t") (Some 2) ∷
    commit (codes "rt") None ∷
    commit (codes "ar") None ∷
    commit (codes "ww") None ∷
    commit (codes "u") (Some 4) ∷
    commit (codes "m") None ∷
    commit (codes "sb") None ∷
    commit (codes "xr") None ∷
    commit (codes "h") (Some 4) ∷
    commit (codes "l") (Some 4) ∷
    commit (codes "ws") None ∷
    commit (codes "rr") None ∷
    inter (codes "alo") (lo2 a) ∷
    inter (codes "ahi") (hi2 a) ∷
    inter (codes "blo") (s ⊕ num 64 ⊗ lo2 t) ∷
    inter (codes "f") (ar ⊗ sb) ∷
    inter (codes "e2") ((num 1 ⊖ ww) ⊗ a 2 ⊕ ww ⊗ f ⊗ num 65535) ∷
    inter (codes "e3") ((num 1 ⊖ ww) ⊗ a 3 ⊕ ww ⊗ f ⊗ num 65535) ∷
    inter (codes "d0") ((num 1 ⊖ rt) ⊗ l 0 ⊕ rt ⊗ (h 0 ⊕ l 1)) ∷
    inter (codes "d1") ((num 1 ⊖ rt) ⊗ (l 1 ⊕ h 0) ⊕ rt ⊗ (h 1 ⊕ l 2)) ∷
    inter (codes "d2") ((num 1 ⊖ rt) ⊗ (l 2 ⊕ h 1) ⊕ rt ⊗ (h 2 ⊕ l 3)) ∷
    inter (codes "d3") ((num 1 ⊖ rt) ⊗ (l 3 ⊕ h 2) ⊕ rt ⊗ (h 3 ⊕ f ⊗ (num 65536 ⊖ m))) ∷
    inter (codes "x") (f ⊗ num 65535) ∷
    inter (codes "r0") (u 0 ⊗ d0 ⊕ rt ⊗ (u 1 ⊗ d1 ⊕ u 2 ⊗ d2 ⊕ u 3 ⊗ d3)) ∷
    inter (codes "r1") (u 0 ⊗ d1 ⊕ (num 1 ⊖ rt) ⊗ u 1 ⊗ d0 ⊕ rt ⊗ (u 1 ⊗ d2 ⊕ u 2 ⊗ d3 ⊕ u 3 ⊗ x)) ∷
    inter (codes "r2") (u 0 ⊗ d2 ⊕ (num 1 ⊖ rt) ⊗ (u 1 ⊗ d1 ⊕ u 2 ⊗ d0) ⊕ rt ⊗ (u 1 ⊗ d3 ⊕ (u 2 ⊕ u 3) ⊗ x)) ∷
    inter (codes "r3") (u 0 ⊗ d3 ⊕ (num 1 ⊖ rt) ⊗ (u 1 ⊗ d2 ⊕ u 2 ⊗ d1 ⊕ u 3 ⊗ d0) ⊕ rt ⊗ (u 1 ⊕ u 2
    ⊕ u 3) ⊗ x) ∷
    inter (codes "clo") (r0 ⊕ num 65536 ⊗ r1) ∷
    inter (codes "chi") ((num 1 ⊖ ww) ⊗ (r2 ⊕ num 65536 ⊗ r3) ⊕ ww ⊗ ws ⊗ M) ∷
    lookup (rows here (sel ∷ [])) BIT ∷  -- 129
    lookup (rows_with here sel (op ∷ s ∷ rt ∷ ar ∷ ww ∷ u 0 ∷ u 1 ∷ u 2 ∷ u 3 ∷ m ∷ [])) ShiftTab.shift ∷  -- 130
    each here sel (all 4 a ++ all 2 t ++ ((num 64 ⊗ t 1) ∷ [])) R16 ++  -- 131 to 137
    each here sel (sb ∷ ws ∷ []) BIT ++  -- 138 to 139
    each here sel ((xr ∷ (num 2 ⊗ xr) ∷ rr ∷ (num 2 ⊗ rr) ∷ []) ++ all 4 h ++ all 4 l) R16 ++  -- 140 to 151
    is_zero (sel ⊗ (ww ⊗ a 1 ⊕ (num 1 ⊖ ww) ⊗ a 3 ⊖ num 32768 ⊗ sb ⊖ xr)) ∷  -- 152
    is_zero (sel ⊗ (a 0 ⊗ m ⊖ num 65536 ⊗ h 0 ⊖ l 0)) ∷  -- 153
    is_zero (sel ⊗ (a 1 ⊗ m ⊖ num 65536 ⊗ h 1 ⊖ l 1)) ∷  -- 154
    is_zero (sel ⊗ (e2 ⊗ m ⊖ num 65536 ⊗ h 2 ⊖ l 2)) ∷  -- 155
    is_zero (sel ⊗ (e3 ⊗ m ⊖ num 65536 ⊗ h 3 ⊖ l 3)) ∷  -- 156
    is_zero (sel ⊗ (r1 ⊖ num 32768 ⊗ ws ⊖ rr)) ∷ []  -- 157

abbrev pub space : Namespace
space = record { name = codes "Shift"; rows = 1024; items = items }
