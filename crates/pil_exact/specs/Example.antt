-- A worked example (docs/KIT.md): a namespace that adds up 16-bit numbers, row by row, after the three
-- small tables.
--
--     namespace Tally(1024);
--         pol constant LAST;
--         pol commit sel, n, sum;
--         pol after = sum + n;
--         {sel} in {Bit.V};
--         sel {n} in {Range16.V};
--         sel {sum} in {Range16.V};
--         sel * (1 - LAST) * (sum' - after) = 0;
use Rattle.std.specs.Prelude.{ℕ, ◌+◌, ◌<◌, ◌≤◌, ◌≡◌, Bool, true, false, List, [], ◌∷◌, None, Some, codes}
use Rattle.gold.specs.Field.{p}
use Rattle.pil_ast.specs.Term.{Term, num, col, mid, ◌⊕◌, ◌⊖◌, ◌⊗◌, Line, constant, commit, inter, identity, lookup, Namespace, item_at, space_at}
use Rattle.pil_ast.specs.Columns.{Columns}
use Rattle.pil_ast.specs.Value.{around, row_after}
use Rattle.pil_ast.specs.Holds.{HoldsAt}
use Rattle.pil_exact.specs.Exact.{HoldsExactly}
use Rattle.pil_exact.specs.Tables.{SmallTables, bits, words}

abbrev pub LAST : Term
LAST = col 3 0 false

abbrev pub sel : Term
sel = col 3 1 false

abbrev pub n : Term
n = col 3 2 false

-- the sum, here or at the next row
abbrev pub sum : Bool → Term
sum b = col 3 3 b

-- the fifth item, counted from 0
abbrev pub after : Term
after = mid 3 4 false

abbrev pub items : List Line
items =
    constant (codes "LAST") None
    ∷ commit (codes "sel") None
    ∷ commit (codes "n") None
    ∷ commit (codes "sum") None
    ∷ inter (codes "after") (sum false ⊕ n)
    ∷ lookup (record { space = 3; sel = None; terms = sel ∷ [] }) bits
    ∷ lookup (record { space = 3; sel = Some sel; terms = n ∷ [] }) words
    ∷ lookup (record { space = 3; sel = Some sel; terms = sum false ∷ [] }) words
    ∷ identity 3 (sel ⊗ (num 1 ⊖ LAST) ⊗ (sum true ⊖ after)) (num 0)
    ∷ []

abbrev pub tally : Namespace
tally = record { name = codes "Tally"; rows = 1024; items = items }

-- what is supposed of a text and its tables
pub record HasTally (ns : List Namespace) (c : Columns) : Type 0 where
  pub tally : space_at ns 3 ≡ tally
  pub tables : SmallTables c
  pub last : (i r : ℕ) → c.at 3 i 0 r ≤ 1
  pub in_field : (s i k r : ℕ) → c.at s i k r < p

-- row r of instance i meets each line
abbrev pub Meets : List Namespace → Columns → ℕ → ℕ → Type 0
Meets ns c i r = (k : ℕ) → HoldsAt ns c i r (item_at items k)

-- the next row has the sum with this row's number
abbrev pub Adds : Columns → ℕ → ℕ → Type 0
Adds c i r = c.at 3 i 3 (row_after (c.rows 3) r) ≡ c.at 3 i 3 r + c.at 3 i 2 r

-- Soundness: a selected row that isn't the last has 16-bit numbers, and adds in whole numbers.
abbrev pub TallyLaw : Type 0
TallyLaw = (ns : List Namespace) (c : Columns) (i r : ℕ) → HasTally ns c → Meets ns c i r → c.at 3 i 1 r ≡ 1 → c.at 3 i 0 r ≡ 0 → (c.at 3 i 2 r ≤ 65535) × (c.at 3 i 3 r ≤ 65535) × Adds c i r

-- No wrap: each identity holds in whole numbers, at each row.
abbrev pub TallyExact : Type 0
TallyExact = (ns : List Namespace) (c : Columns) (i r : ℕ) → HasTally ns c → Meets ns c i r → (k : ℕ) → HoldsExactly items (around ns c 3 i r) (item_at items k)

-- Completeness: a row that adds meets the lines, and so does one that isn't selected.
abbrev pub TallyComplete : Type 0
TallyComplete = (ns : List Namespace) (c : Columns) (i r : ℕ) → HasTally ns c → c.at 3 i 1 r ≡ 1 → c.at 3 i 0 r ≡ 0 → c.at 3 i 2 r ≤ 65535 → c.at 3 i 3 r ≤ 65535 → Adds c i r → Meets ns c i r

abbrev pub TallyPadding : Type 0
TallyPadding = (ns : List Namespace) (c : Columns) (i r : ℕ) → HasTally ns c → c.at 3 i 1 r ≡ 0 → Meets ns c i r
