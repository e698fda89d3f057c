-- The namespace Main: a row is a step of the run.
use Rattle.std.specs.Prelude.{ℕ, false, List, [], ◌∷◌, ◌++◌, None, codes}
use Rattle.pil_ast.specs.Term.{Term, num, col, mid, ◌⊕◌, ◌⊖◌, ◌⊗◌, Tuples, Line, constant, commit, inter, identity, lookup, bus, Namespace}
use Rattle.machine_text.specs.Words.{next, rows, rows_with, R16, each, BIT}
use Rattle.machine_text.specs.Rom
use Rattle.machine_text.specs.Init
use Rattle.machine_text.specs.Mem
use Rattle.machine_text.specs.Out
use Rattle.machine_text.specs.Align
use Rattle.machine_text.specs.Binary
use Rattle.machine_text.specs.Shift
use Rattle.machine_text.specs.Arith

abbrev pub here : ℕ
here = 6

abbrev is_zero : Term → Line
is_zero e = identity here e (num 0)

abbrev pub STEP : Term
STEP = col here 0 false

abbrev pub INST : Term
INST = col here 1 false

abbrev pub LAST : Term
LAST = col here 2 false

abbrev pub L0 : Term
L0 = col here 3 false

abbrev pub CLAST : Term
CLAST = col here 4 false

abbrev pub CFIRST : Term
CFIRST = col here 5 false

abbrev pub LEND : Term
LEND = col here 6 false

abbrev pub ENTRY : Term
ENTRY = col here 7 false

abbrev pub sel : Term
sel = col here 8 false

abbrev pub pc : Term
pc = col here 9 false

abbrev pub rs1 : Term
rs1 = col here 10 false

abbrev pub rs2 : Term
rs2 = col here 11 false

abbrev pub rd : Term
rd = col here 12 false

abbrev pub op : Term
op = col here 13 false

abbrev pub ilo : Term
ilo = col here 14 false

abbrev pub ihi : Term
ihi = col here 15 false

abbrev pub klo : Term
klo = col here 16 false

abbrev pub khi : Term
khi = col here 17 false

abbrev pub jt : Term
jt = col here 18 false

abbrev pub kind : Term
kind = col here 19 false

abbrev pub bi : Term
bi = col here 20 false

abbrev pub wr : Term
wr = col here 21 false

abbrev pub ld : Term
ld = col here 22 false

abbrev pub st : Term
st = col here 23 false

abbrev pub jr : Term
jr = col here 24 false

abbrev pub jp : Term
jp = col here 25 false

abbrev pub br : Term
br = col here 26 false

abbrev pub inv : Term
inv = col here 27 false

abbrev pub halt : Term
halt = col here 28 false

abbrev pub uw : Term
uw = col here 29 false

abbrev pub alo : Term
alo = col here 30 false

abbrev pub ahi : Term
ahi = col here 31 false

abbrev pub slo : Term
slo = col here 32 false

abbrev pub shi : Term
shi = col here 33 false

abbrev pub clo : Term
clo = col here 34 false

abbrev pub chi : Term
chi = col here 35 false

abbrev pub flag : Term
flag = col here 36 false

abbrev pub bit : Term
bit = col here 37 false

abbrev pub wl : Term
wl = col here 38 false

abbrev pub wh : Term
wh = col here 39 false

abbrev pub off : Term
off = col here 40 false

abbrev pub olo : Term
olo = col here 41 false

abbrev pub ohi : Term
ohi = col here 42 false

abbrev pub mlo : Term
mlo = col here 43 false

abbrev pub mhi : Term
mhi = col here 44 false

abbrev pub blo : Term
blo = mid here 45 false

abbrev pub bhi : Term
bhi = mid here 46 false

abbrev pub ms : Term
ms = mid here 47 false

abbrev pub w : Term
w = mid here 48 false

abbrev pub vlo : Term
vlo = mid here 49 false

abbrev pub vhi : Term
vhi = mid here 50 false

abbrev pub tk : Term
tk = mid here 51 false

abbrev pub nx : Term
nx = mid here 52 false

abbrev pub go : Term
go = mid here 53 false

-- what an instance leaves to the next, and what that begins with
abbrev pub leaves : Tuples
leaves = rows_with here CLAST ((INST ⊕ num 1) ∷ go ∷ (go ⊗ nx) ∷ [])

abbrev pub enters : Tuples
enters = rows_with here CFIRST (INST ∷ sel ∷ (sel ⊗ pc) ∷ [])

-- the step's instruction, operation, load or store
abbrev pub instruction : Tuples
instruction =
    rows_with here sel
    (pc ∷ rs1 ∷ rs2 ∷ rd ∷ op ∷ ilo ∷ ihi ∷ klo ∷ khi ∷ jt ∷ kind ∷
    bi ∷ wr ∷ ld ∷ st ∷ jr ∷ jp ∷ br ∷ inv ∷ halt ∷ uw ∷ [])

abbrev pub operation : Tuples
operation = rows_with here sel (op ∷ alo ∷ ((num 1 ⊖ uw) ⊗ ahi) ∷ blo ∷ bhi ∷ clo ∷ chi ∷ flag ∷ [])

abbrev pub access : Tuples
access = rows_with here ms (kind ∷ off ∷ olo ∷ ohi ∷ slo ∷ shi ∷ mlo ∷ mhi ∷ [])

-- its accesses: the reads of rs1 and rs2, the read and the write of memory, the write of rd
abbrev pub accesses : List Tuples
accesses =
    rows_with here sel ((num 536870912 ⊕ rs1) ∷ (num 8 ⊗ STEP ⊕ num 1) ∷ num 0 ∷ alo ∷ ahi ∷ []) ∷
    rows_with here sel ((num 536870912 ⊕ rs2) ∷ (num 8 ⊗ STEP ⊕ num 2) ∷ num 0 ∷ slo ∷ shi ∷ []) ∷
    rows_with here ms (w ∷ (num 8 ⊗ STEP ⊕ num 3) ∷ num 0 ∷ olo ∷ ohi ∷ []) ∷
    rows_with here (sel ⊗ st) (w ∷ (num 8 ⊗ STEP ⊕ num 4) ∷ num 1 ∷ mlo ∷ mhi ∷ []) ∷
    rows_with here (sel ⊗ wr) ((num 536870912 ⊕ rd) ∷ (num 8 ⊗ STEP ⊕ num 5) ∷ num 1 ∷ vlo ∷ vhi ∷ []) ∷ []

abbrev pub items : List Line
items =
    constant (codes "STEP") None ∷
    constant (codes "INST") None ∷
    constant (codes "LAST") None ∷
    constant (codes "L0") None ∷
    constant (codes "CLAST") None ∷
    constant (codes "CFIRST") None ∷
    constant (codes "LEND") None ∷
    constant (codes "ENTRY") None ∷
    commit (codes "sel") None ∷
    commit (codes "pc") None ∷
    commit (codes "rs1") None ∷
    commit (codes "rs2") None ∷
    commit (codes "rd") None ∷
    commit (codes "op") None ∷
    commit (codes "ilo") None ∷
    commit (codes "ihi") None ∷
    commit (codes "klo") None ∷
    commit (codes "khi") None ∷
    commit (codes "jt") None ∷
    commit (codes "kind") None ∷
    commit (codes "bi") None ∷
    commit (codes "wr") None ∷
    commit (codes "ld") None ∷
    commit (codes "st") None ∷
    commit (codes "jr") None ∷
    commit (codes "jp") None ∷
    commit (codes "br") None ∷
    commit (codes "inv") None ∷
    commit (codes "halt") None ∷
    commit (codes "uw") None ∷
    commit (codes "alo") None ∷
    commit (codes "ahi") None ∷
    commit (codes "slo") None ∷
    commit (codes "shi") None ∷
    commit (codes "clo") None ∷
    commit (codes "chi") None ∷
    commit (codes "flag") None ∷
    commit (codes "bit") None ∷
    commit (codes "wl") None ∷
    commit (codes "wh") None ∷
    commit (codes "off") None ∷
    commit (codes "olo") None ∷
    commit (codes "ohi") None ∷
    commit (codes "mlo") None ∷
    commit (codes "mhi") None ∷
    inter (codes "blo") (bi ⊗ ilo ⊕ (num 1 ⊖ bi) ⊗ slo) ∷
    inter (codes "bhi") (bi ⊗ ihi ⊕ (num 1 ⊖ bi) ⊗ shi) ∷
    inter (codes "ms") (sel ⊗ (ld ⊕ st)) ∷
    inter (codes "w") (wl ⊕ num 65536 ⊗ wh) ∷
    inter (codes "vlo") (jr ⊗ klo ⊕ ld ⊗ mlo ⊕ (num 1 ⊖ jr ⊖ ld) ⊗ clo) ∷
    inter (codes "vhi") (jr ⊗ khi ⊕ ld ⊗ mhi ⊕ (num 1 ⊖ jr ⊖ ld) ⊗ chi) ∷
    inter (codes "tk") (flag ⊕ inv ⊖ num 2 ⊗ flag ⊗ inv) ∷
    inter (codes "nx") (pc ⊕ num 4 ⊕ (jp ⊕ br ⊗ tk) ⊗ (jt ⊖ pc ⊖ num 4) ⊕ jr ⊗ (clo ⊖ bit ⊖ pc ⊖ num 4)) ∷
    inter (codes "go") (sel ⊗ (num 1 ⊖ halt)) ∷
    lookup (rows here (sel ∷ [])) BIT ∷  -- 1
    is_zero (L0 ⊗ (sel ⊖ num 1)) ∷  -- 2
    is_zero (L0 ⊗ (pc ⊖ ENTRY)) ∷  -- 3
    is_zero ((num 1 ⊖ LAST) ⊗ (next sel ⊖ go)) ∷  -- 4
    is_zero ((num 1 ⊖ LAST) ⊗ go ⊗ (next pc ⊖ nx)) ∷  -- 5
    is_zero (LEND ⊗ go) ∷  -- 6
    bus (leaves ∷ []) (enters ∷ []) ∷  -- 7
    lookup instruction Rom.instruction ∷  -- 8
    is_zero (sel ⊗ halt ⊗ (alo ⊖ num 93)) ∷  -- 9
    is_zero (sel ⊗ halt ⊗ ahi) ∷  -- 10
    is_zero (sel ⊗ jr ⊗ chi) ∷  -- 11
    lookup (rows_with here (sel ⊗ jr) (bit ∷ [])) BIT ∷  -- 12
    is_zero (ms ⊗ chi) ∷  -- 13
    is_zero (ms ⊗ (clo ⊖ num 8 ⊗ w ⊖ off)) ∷  -- 14
    each here ms (wl ∷ wh ∷ (num 8 ⊗ wh) ∷ []) R16 ++  -- 15 to 17
    bus (operation ∷ []) (Binary.operation ∷ Shift.operation ∷ Arith.operation ∷ []) ∷  -- 18
    bus (access ∷ []) (Align.access ∷ []) ∷  -- 19
    bus (accesses ++ Init.writes ∷ Out.reads ∷ []) (Mem.access ∷ []) ∷ []  -- 20

abbrev pub space : ℕ → Namespace
space n = record { name = codes "Main"; rows = n; items = items }
