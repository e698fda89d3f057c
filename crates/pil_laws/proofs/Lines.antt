-- From the lines of a whole text to the items of its namespaces and the rows of their instances, and back.
use Rattle.std.proofs.Common.{ℕ, zero, suc, ◌<◌, ◌≤◌, ◌≡◌, Bool, true, false, cond, inl, inr, List, [], ◌∷◌, ◌++◌, Some, None, length, slice_get, refl, sym, subst, arith, All}
use Rattle.std.specs.Prelude.{filter}
use Rattle.std.proofs.lemmas.Bool.{eqb-true, and_parts, false≢true, cases_lt}
use Rattle.std.proofs.lemmas.List.Elements.{All-nil, All-cons, All-append, All-head, All-tail}
use Rattle.pil_ast.specs.Term.{num, Line, constant, commit, inter, published, identity, lookup, bus, Namespace, item_at, space_at, is_line}
use Rattle.pil_ast.specs.Columns.{Columns}
use Rattle.pil_ast.specs.Sound.{IsItem, IsSound}
use Rattle.pil_ast.specs.Holds.{Holds, HoldsAt, AllHold, lines}
use Rattle.pil_laws.specs.Lines.{EachHolds, is_over, are_over, BusAnd, AllBuses, EachRowMeets, IsSomeLine}

-- Lines found by their number.

-- what is found at a place of a list of lines is the line there
pub item-found : (ls : List Line) (k : ℕ) (l : Line) → slice_get ls k ≡ Some l → item_at ls k ≡ l
item-found [] k l e = let n : ⊥ = cc in absurd n
item-found (x ∷ xs) zero l e = let s : x ≡ l = cc in s
item-found (x ∷ xs) (suc k) l e = item-found xs k l e

pub item-there : (ls : List Line) (k : ℕ) → k < length ls → slice_get ls k ≡ None → ⊥
item-there [] k l e = omega arith
item-there (x ∷ xs) zero l e = cc
item-there (x ∷ xs) (suc k) l e = item-there xs k (omega arith) e

-- past the end stands a line that holds always
item-past : (ls : List Line) (k : ℕ) → length ls ≤ k → item_at ls k ≡ identity 0 (num 0) (num 0)
item-past [] k l = refl
item-past (x ∷ xs) zero l = absurd (omega arith)
item-past (x ∷ xs) (suc k) l = item-past xs k (omega arith)

module _ (P : Line → Type 0) where
  at-found : (ls : List Line) (k : ℕ) (l : Line) → slice_get ls k ≡ Some l → All P ls → P l
  at-found [] k l e all = let n : ⊥ = cc in absurd n
  at-found (x ∷ xs) zero l e all = let s : x ≡ l = cc in subst P s (All-head P x xs all)
  at-found (x ∷ xs) (suc k) l e all = at-found xs k l e (All-tail P x xs all)

module _ (ns : List Namespace) where
  items-lines : (s : ℕ) (ls : List Line) → All (IsItem ns s) ls → All (IsSomeLine ns) (filter is_line ls)
  items-lines s [] all = All-nil (IsSomeLine ns)
  items-lines s (l ∷ ls) all = kept (is_line l) refl (items-lines s ls (All-tail (IsItem ns s) l ls all))
    where
      kept : (b : Bool) → is_line l ≡ b → All (IsSomeLine ns) (filter is_line ls) → All (IsSomeLine ns) (cond b (l ∷ filter is_line ls) (filter is_line ls))
      kept true e more = All-cons (IsSomeLine ns) l (filter is_line ls) (record { space = s; item = All-head (IsItem ns s) l ls all; line = e }) more
      kept false e more = more

  some-lines : (ms : List Namespace) → ((j : ℕ) → j < length ms → (s : ℕ) × All (IsItem ns s) (space_at ms j).items) → All (IsSomeLine ns) (lines ms)
  some-lines [] h = All-nil (IsSomeLine ns)
  some-lines (m ∷ ms) h =
      let first = h 0 (omega arith) in
      All-append (IsSomeLine ns) (filter is_line m.items) (lines ms) (items-lines first.0 m.items first.1) (some-lines ms (λ j l. h (suc j) (omega arith)))

  -- a line that is found is an item of a namespace of the text
  pub line-found : (k : ℕ) (l : Line) → IsSound ns → slice_get (lines ns) k ≡ Some l → IsSomeLine ns l
  line-found k l sound e = at-found (IsSomeLine ns) (lines ns) k l e (some-lines ns (λ j m. (j, (sound.spaces j m).items)))

-- What holds of a line.
module _ (ns : List Namespace) (c : Columns) where
  -- lines hold where each of their numbers does
  pub holds-within : (ls : List Line) → ((k : ℕ) → k < length ls → Holds ns c (item_at ls k)) → EachHolds ns c ls
  holds-within ls h k = elim (cases_lt k (length ls)) [
    | inl l ↦ h k l
    | inr g ↦ subst (Holds ns c) (sym (item-past ls k g)) (λ i r p q. refl)
  ]

  front : (xs ys : List Line) → EachHolds ns c (xs ++ ys) → EachHolds ns c xs
  front [] ys h k = λ i r _ _. refl
  front (x ∷ xs) ys h zero = h 0
  front (x ∷ xs) ys h (suc k) = front xs ys (λ k. h (suc k)) k

  back : (xs ys : List Line) → EachHolds ns c (xs ++ ys) → EachHolds ns c ys
  back [] ys h k = h k
  back (x ∷ xs) ys h k = back xs ys (λ k. h (suc k)) k

  joined : (xs ys : List Line) → EachHolds ns c xs → EachHolds ns c ys → EachHolds ns c (xs ++ ys)
  joined [] ys g h k = h k
  joined (x ∷ xs) ys g h zero = g 0
  joined (x ∷ xs) ys g h (suc k) = joined xs ys (λ k. g (suc k)) h k

  -- a declaration says nothing
  declares : (l : Line) → is_line l ≡ false → Holds ns c l
  declares (constant n l) e = tt
  declares (commit n l) e = tt
  declares (inter n t) e = tt
  declares (published n s j r) e = tt
  declares (identity s a b) e = absurd (false≢true (sym e))
  declares (lookup a b) e = absurd (false≢true (sym e))
  declares (bus a b) e = absurd (false≢true (sym e))

  unfiltered : (ls : List Line) → EachHolds ns c (filter is_line ls) → EachHolds ns c ls
  unfiltered [] h k = λ i r _ _. refl
  unfiltered (l ∷ ls) h k = kept (is_line l) refl (unfiltered ls) h k
    where
      kept : (b : Bool) → is_line l ≡ b → (EachHolds ns c (filter is_line ls) → EachHolds ns c ls) → EachHolds ns c (cond b (l ∷ filter is_line ls) (filter is_line ls)) → EachHolds ns c (l ∷ ls)
      kept true e more h zero = h 0
      kept true e more h (suc k) = more (λ k. h (suc k)) k
      kept false e more h zero = declares l e
      kept false e more h (suc k) = more h k

  filtered : (ls : List Line) → EachHolds ns c ls → EachHolds ns c (filter is_line ls)
  filtered [] h k = λ i r _ _. refl
  filtered (l ∷ ls) h k = kept (is_line l) (h 0) (filtered ls (λ k. h (suc k))) k
    where
      kept : (b : Bool) → Holds ns c l → EachHolds ns c (filter is_line ls) → EachHolds ns c (cond b (l ∷ filter is_line ls) (filter is_line ls))
      kept true first more zero = first
      kept true first more (suc k) = more k
      kept false first more k = more k

  spaces_hold : (ms : List Namespace) → EachHolds ns c (lines ms) → (s : ℕ) → EachHolds ns c (space_at ms s).items
  spaces_hold [] h s k = λ i r _ _. refl
  spaces_hold (m ∷ ms) h zero k = unfiltered m.items (front (filter is_line m.items) (lines ms) h) k
  spaces_hold (m ∷ ms) h (suc s) k = spaces_hold ms (back (filter is_line m.items) (lines ms) h) s k

  lines_hold : (ms : List Namespace) → ((s : ℕ) → EachHolds ns c (space_at ms s).items) → EachHolds ns c (lines ms)
  lines_hold [] h k = λ i r _ _. refl
  lines_hold (m ∷ ms) h k = joined (filter is_line m.items) (lines ms) (filtered m.items (h 0)) (lines_hold ms (λ s. h (suc s))) k

  -- Where a text holds, the items of each namespace do, and back.
  pub space_holds : AllHold ns c → (s : ℕ) → EachHolds ns c (space_at ns s).items
  space_holds h = spaces_hold ns h

  pub text_holds : ((s : ℕ) → EachHolds ns c (space_at ns s).items) → AllHold ns c
  text_holds h = lines_hold ns h

  bus_first : (l : Line) (T : Type 0) → BusAnd ns c l T → T
  bus_first (bus ls rs) T h = h.1
  bus_first _ T h = h

  bus_and : (l : Line) (T : Type 0) → Holds ns c l → T → BusAnd ns c l T
  bus_and (bus ls rs) T h t = (h, t)
  bus_and _ T h t = t

  module _ (home : ℕ) where
    at_row : (i r : ℕ) → i < c.instances home → r < c.rows home → (l : Line) → is_over home l ≡ true → Holds ns c l → HoldsAt ns c i r l
    at_row i r m n (identity s a b) q h = h i r (subst (λ z. i < c.instances z) (sym (eqb-true _ _ q)) m) (subst (λ z. r < c.rows z) (sym (eqb-true _ _ q)) n)
    at_row i r m n (lookup a b) q h = h i r (subst (λ z. i < c.instances z) (sym (eqb-true _ _ q)) m) (subst (λ z. r < c.rows z) (sym (eqb-true _ _ q)) n)
    at_row i r m n _ q h = tt

    -- What each line over `home` says of a row.
    pub row_meets : (ls : List Line) → are_over home ls ≡ true → EachHolds ns c ls → EachRowMeets ns c home ls
    row_meets [] q h i r m n k = refl
    row_meets (l ∷ ls) q h i r m n zero = at_row i r m n l (and_parts _ _ q).0 (h 0)
    row_meets (l ∷ ls) q h i r m n (suc k) = row_meets ls (and_parts _ _ q).1 (λ k. h (suc k)) i r m n k

    at_rows : (l : Line) (T : Type 0) → is_over home l ≡ true → BusAnd ns c l T → ((i r : ℕ) → i < c.instances home → r < c.rows home → HoldsAt ns c i r l) → Holds ns c l
    at_rows (identity s a b) T q e h = λ i r m n. h i r (subst (λ z. i < c.instances z) (eqb-true _ _ q) m) (subst (λ z. r < c.rows z) (eqb-true _ _ q) n)
    at_rows (lookup a b) T q e h = λ i r m n. h i r (subst (λ z. i < c.instances z) (eqb-true _ _ q) m) (subst (λ z. r < c.rows z) (eqb-true _ _ q) n)
    at_rows (bus a b) T q e h = e.0
    at_rows _ T q e h = tt

    -- Where each row meets the lines over `home`, and each `is` among them holds, all of them hold.
    pub all_hold : (ls : List Line) → are_over home ls ≡ true → AllBuses ns c ls → EachRowMeets ns c home ls → EachHolds ns c ls
    all_hold [] q e h k = λ i r _ _. refl
    all_hold (l ∷ ls) q e h zero = at_rows l (AllBuses ns c ls) (and_parts _ _ q).0 e (λ i r m n. h i r m n 0)
    all_hold (l ∷ ls) q e h (suc k) = all_hold ls (and_parts _ _ q).1 (bus_first l (AllBuses ns c ls) e) (λ i r m n k. h i r m n (suc k)) k

  pub buses_hold : (ls : List Line) → EachHolds ns c ls → AllBuses ns c ls
  buses_hold [] h = tt
  buses_hold (l ∷ ls) h = bus_and l (AllBuses ns c ls) (h 0) (buses_hold ls (λ k. h (suc k)))
