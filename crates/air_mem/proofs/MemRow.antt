-- What the lines of Mem say of a row, in whole numbers.
use Rattle.std.proofs.Common.{ℕ, ◌<◌, ◌≤◌, ◌≡◌, ◌≢◌, not, eqb, List, [], ◌∷◌, ◌++◌, length, refl, sym, ap, arith}
use Rattle.pil_ast.specs.Term.{Namespace, item_at}
use Rattle.pil_ast.specs.Columns.{Columns}
use Rattle.pil_ast.specs.Value.{around, row_after}
use Rattle.pil_ast.specs.Holds.{sent}
use Rattle.pil_ast.specs.Holds.{HoldsAt}
use Rattle.pil_exact.specs.Row.{Says}
use Rattle.pil_exact.proofs.Row.{Fact, is, most, AllMeet, meet_both, Row, row_at, rows_at, here, both, line, all_say, fact, found, MeetsFound}
use Rattle.pil_exact.proofs.Small.{AllSmall, all_look, bounds, meets_bounds, bit_entry}
use Rattle.machine_text.specs.Mem.{items, sel, space}
use Rattle.air_mem.specs.Laws.{HasMem}

count : length items ≡ 37
count = refl

pub small : AllSmall sel items
small = assumption

-- row r of instance i meets Mem's lines
abbrev pub Meets : List Namespace → Columns → ℕ → ℕ → Type 0
Meets ns c i r = (k : ℕ) → HoldsAt ns c i r (item_at items k)

abbrev pub column : Columns → ℕ → ℕ → ℕ → ℕ
column c i r k = c.at 7 i k r

-- the p columns of row r of instance i are row q of instance j
pub record Before (c : Columns) (i r j q : ℕ) : Type 0 where
  pub sel : column c i r 15 ≡ column c j q 5
  pub key : column c i r 16 ≡ column c j q 6
  pub time : column c i r 17 ≡ column c j q 7
  pub lo : column c i r 18 ≡ column c j q 9
  pub hi : column c i r 19 ≡ column c j q 10

nonzero : (a : ℕ) → a ≤ 1 → a ≢ 0 → a ≡ 1
nonzero a h k = omega arith

module _ (ns : List Namespace) (c : Columns) (i r : ℕ) (has : HasMem ns c) (meets : Meets ns c i r) where
  pub says : (k : ℕ) → Says items (around ns c 7 i r) (sent ns c) (item_at items k)
  says = all_say ns c 7 i r space has.mem items refl meets

  pub sel_bit : column c i r 5 ≤ 1
  sel_bit = bit_entry ns c has.tables _ (says 20 refl)

  pub kept : column c i r 1 ≡ 0 → Before c i (row_after (c.rows 7) r) i r
  kept e =
      let row : Row items (around ns c 7 i r) 7 (both ((1, is 0) ∷ []) []) = rows_at items ns c 7 i r ((1, is 0) ∷ []) [] has.canonical (e, tt) tt in
      record {
        sel = line row (item_at items 22) (says 22) refl;
        key = line row (item_at items 23) (says 23) refl;
        time = line row (item_at items 24) (says 24) refl;
        lo = line row (item_at items 25) (says 25) refl;
        hi = line row (item_at items 26) (says 26) refl;
      }

  module _ (on : column c i r 5 ≢ 0) where
    pub one : column c i r 5 ≡ 1
    one = nonzero _ sel_bit on

    pub bounded : AllMeet (bounds 7 items) (column c i r)
    bounded = meets_bounds items (around ns c 7 i r) 7 items (all_look ns c has.tables items (around ns c 7 i r) sel (ap (λ z. not (eqb z 0)) one) items small says)

    -- what is known of the column k
    pub within : (k : ℕ) → MeetsFound (column c i r k) (found (bounds 7 items) k)
    within = fact (bounds 7 items) (column c i r) bounded

    -- a selected row of which more is known
    pub row_with : (fs : List (ℕ × Fact)) → AllMeet fs (column c i r) → Row items (around ns c 7 i r) 7 (here (fs ++ ((5, is 1) ∷ bounds 7 items)))
    row_with fs h = row_at items ns c 7 i r (fs ++ ((5, is 1) ∷ bounds 7 items)) has.canonical (meet_both fs ((5, is 1) ∷ bounds 7 items) (column c i r) h (one, bounded))

    -- in the first row of all
    pub first_same : column c i r 2 ≡ 1 → column c i r 11 ≡ 0
    first_same e = line (row_with ((2, is 1) ∷ []) (e, tt)) (item_at items 29) (says 29) refl

    -- in every other row
    pub before_on : column c i r 2 ≡ 0 → column c i r 15 ≡ 1
    before_on e = sym (line (row_with ((2, is 0) ∷ []) (e, tt)) (item_at items 28) (says 28) refl)

    pub same_key : column c i r 2 ≡ 0 → column c i r 11 ≡ 1 → column c i r 6 ≡ column c i r 16
    same_key e s = line (row_with ((2, is 0) ∷ (11, is 1) ∷ []) (e, (s, tt))) (item_at items 30) (says 30) refl

    pub later_time : column c i r 2 ≡ 0 → column c i r 11 ≡ 1 → column c i r 7 ≤ 34359738368 → column c i r 17 ≤ 34359738368 → column c i r 17 < column c i r 7
    later_time e s t u =
        let l = line (row_with ((2, is 0) ∷ (11, is 1) ∷ (7, most 34359738368) ∷ (17, most 34359738368) ∷ []) (e, (s, (t, (u, tt))))) (item_at items 31) (says 31) refl in
        omega arith

    pub greater_key : column c i r 2 ≡ 0 → column c i r 11 ≡ 0 → column c i r 6 < 1073741824 → column c i r 16 < 1073741824 → column c i r 16 < column c i r 6
    greater_key e s t u =
        let l = line (row_with ((2, is 0) ∷ (11, is 0) ∷ (6, most 1073741823) ∷ (16, most 1073741823) ∷ []) (e, (s, (omega arith, (omega arith, tt))))) (item_at items 31) (says 31) refl in
        omega arith

    pub read_same : column c i r 8 ≡ 0 → column c i r 11 ≡ 1 → (column c i r 9 ≡ column c i r 18) × (column c i r 10 ≡ column c i r 19)
    read_same e s =
        let row = row_with ((8, is 0) ∷ (11, is 1) ∷ []) (e, (s, tt)) in
        (line row (item_at items 32) (says 32) refl, line row (item_at items 33) (says 33) refl)

    pub read_new : column c i r 8 ≡ 0 → column c i r 11 ≡ 0 → (column c i r 9 ≡ 0) × (column c i r 10 ≡ 0)
    read_new e s =
        let row = row_with ((8, is 0) ∷ (11, is 0) ∷ []) (e, (s, tt)) in
        (line row (item_at items 32) (says 32) refl, line row (item_at items 33) (says 33) refl)
