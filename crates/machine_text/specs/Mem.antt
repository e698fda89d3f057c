-- The namespace Mem: a row is an access of memory or of a register, in order of its key and time.
use Rattle.std.specs.Prelude.{ℕ, ◌+◌, false, List, [], ◌∷◌, ◌++◌, Some, None, codes}
use Rattle.pil_ast.specs.Term.{Term, num, col, mid, ◌⊕◌, ◌⊖◌, ◌⊗◌, Tuples, Line, constant, commit, inter, identity, lookup, bus, Namespace}
use Rattle.machine_text.specs.Words.{K, next, all, rows, rows_with, R16, each, BIT}

abbrev pub here : ℕ
here = 7

abbrev is_zero : Term → Line
is_zero e = identity here e (num 0)

abbrev pub INST : Term
INST = col here 0 false

abbrev pub LAST : Term
LAST = col here 1 false

abbrev pub L0 : Term
L0 = col here 2 false

abbrev pub CLAST : Term
CLAST = col here 3 false

abbrev pub CFIRST : Term
CFIRST = col here 4 false

abbrev pub sel : Term
sel = col here 5 false

abbrev pub key : Term
key = col here 6 false

abbrev pub time : Term
time = col here 7 false

abbrev pub wr : Term
wr = col here 8 false

abbrev pub lo : Term
lo = col here 9 false

abbrev pub hi : Term
hi = col here 10 false

abbrev pub same : Term
same = col here 11 false

abbrev pub g : ℕ → Term
g k = col here (k + 12) false

abbrev pub psel : Term
psel = col here 15 false

abbrev pub pkey : Term
pkey = col here 16 false

abbrev pub ptime : Term
ptime = col here 17 false

abbrev pub plo : Term
plo = col here 18 false

abbrev pub phi : Term
phi = col here 19 false

abbrev pub gap : Term
gap = mid here 18 false

abbrev pub on : Term
on = mid here 19 false

-- the access of a row: key, time, whether it writes, the limbs of the value
abbrev pub access : Tuples
access = rows_with here sel (key ∷ time ∷ wr ∷ lo ∷ hi ∷ [])

-- the last row of an instance and what the next instance has as the row before its first
abbrev last_row : Tuples
last_row = rows_with here CLAST ((INST ⊕ num 1) ∷ sel ∷ key ∷ time ∷ lo ∷ hi ∷ [])

abbrev row_before : Tuples
row_before = rows_with here CFIRST (INST ∷ psel ∷ pkey ∷ ptime ∷ plo ∷ phi ∷ [])

abbrev pub items : List Line
items =
    constant (codes "INST") None ∷
    constant (codes "LAST") None ∷
    constant (codes "L0") None ∷
    constant (codes "CLAST") None ∷
    constant (codes "CFIRST") None ∷
    commit (codes "sel") None ∷
    commit (codes "key") None ∷
    commit (codes "time") None ∷
    commit (codes "wr") None ∷
    commit (codes "lo") None ∷
    commit (codes "hi") None ∷
    commit (codes "same") None ∷
    commit (codes "g") (Some 3) ∷
    commit (codes "psel") None ∷
    commit (codes "pkey") None ∷
    commit (codes "ptime") None ∷
    commit (codes "plo") None ∷
    commit (codes "phi") None ∷
    inter (codes "gap") (g 0 ⊕ num 65536 ⊗ g 1 ⊕ K ⊗ g 2) ∷
    inter (codes "on") (sel ⊗ (num 1 ⊖ L0)) ∷
    lookup (rows here (sel ∷ [])) BIT ∷  -- 21
    lookup (rows_with here sel (same ∷ [])) BIT ∷  -- 22
    is_zero ((num 1 ⊖ LAST) ⊗ (next psel ⊖ sel)) ∷  -- 23
    is_zero ((num 1 ⊖ LAST) ⊗ (next pkey ⊖ key)) ∷  -- 24
    is_zero ((num 1 ⊖ LAST) ⊗ (next ptime ⊖ time)) ∷  -- 25
    is_zero ((num 1 ⊖ LAST) ⊗ (next plo ⊖ lo)) ∷  -- 26
    is_zero ((num 1 ⊖ LAST) ⊗ (next phi ⊖ hi)) ∷  -- 27
    bus (last_row ∷ []) (row_before ∷ []) ∷  -- 28
    is_zero (on ⊗ (num 1 ⊖ psel)) ∷  -- 29
    is_zero (L0 ⊗ sel ⊗ same) ∷  -- 30
    is_zero (on ⊗ same ⊗ (key ⊖ pkey)) ∷  -- 31
    is_zero (on ⊗ (gap ⊖ same ⊗ (time ⊖ ptime ⊖ num 1) ⊖ (num 1 ⊖ same) ⊗ (key ⊖ pkey ⊖ num 1))) ∷  -- 32
    is_zero (sel ⊗ (num 1 ⊖ wr) ⊗ (lo ⊖ same ⊗ plo)) ∷  -- 33
    is_zero (sel ⊗ (num 1 ⊖ wr) ⊗ (hi ⊖ same ⊗ phi)) ∷  -- 34
    each here sel (all 3 g) R16 ++ []  -- 35 to 37

abbrev pub space : Namespace
space = record { name = codes "Mem"; rows = 8192; items = items }
