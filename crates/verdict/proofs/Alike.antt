-- On the right of an `in` stand constants of the first namespaces alone; and no public is named.
use Rattle.std.proofs.Common.{ℕ, Bool, true, false, zero, suc, not, cond, eqb, ltb, ◌≡◌, ◌<◌, ◌+◌, ◌&&◌, ◌||◌, List, [], ◌∷◌, ◌++◌, All, Option, Some, None, map, flat_map, refl, sym, ap, subst, ◌∙◌, arith}
use Rattle.std.specs.Prelude.{nat_lt, ◌==◌}
use Rattle.std.specs.List.{list_all, range_with_len}
use Rattle.std.proofs.lemmas.Bool.{and_parts, ltb-true, eqb-true, false≢true}
use Rattle.std.proofs.lemmas.List.Elements.{All-nil, All-cons}
use Rattle.std.proofs.lemmas.List.Folds.{list_all-append}
use Rattle.gold.specs.declared.shapes.Profile.{Profile}
use Rattle.pil_ast.specs.Term.{Term, num, col, mid, public, opp, ◌⊕◌, ◌⊖◌, ◌⊗◌, Tuples, Line, constant, commit, inter, published, identity, lookup, bus, Namespace, item_at, space_at, width}
use Rattle.pil_ast.specs.Columns.{Columns}
use Rattle.pil_ast.specs.Holds.{by_rows, lines, row_sent, selected, sent, times, tuple}
use Rattle.pil_ast.specs.Value.{value_in}
use Rattle.pil_program.specs.Publics.{NoPublic, NoneInSelector, NoneInList, NoneInItem, NoneIsNamed}
use Rattle.instance_pass.specs.Passes.{IsSameInstance}
use Rattle.machine_text.specs.Lines.{has_public, names_no_public, terms_of}
use Rattle.machine_text.specs.Machine.{machine}
use Rattle.pil_checker.specs.Standing.{SendAlike}

-- ---- a test of right sides

-- one of the first w columns of the namespace s, without a mark
abbrev pub is_cell : ℕ → ℕ → Term → Bool
is_cell s w (num n) = false
is_cell s w (col m k b) = (m == s) && (nat_lt k w && not b)
is_cell s w (mid m k b) = false
is_cell s w (public k) = false
is_cell s w (opp a) = false
is_cell s w (a ⊕ b) = false
is_cell s w (a ⊖ b) = false
is_cell s w (a ⊗ b) = false

abbrev pub is_cell_selector : ℕ → ℕ → Option Term → Bool
is_cell_selector s w None = true
is_cell_selector s w (Some e) = is_cell s w e

abbrev pub looks_up : List Namespace → Line → Bool
looks_up ns (constant n len) = true
looks_up ns (commit n len) = true
looks_up ns (inter n e) = true
looks_up ns (published n s k r) = true
looks_up ns (identity s a b) = true
looks_up ns (lookup a b) = nat_lt b.space 6 && (is_cell_selector b.space (width (space_at ns b.space).items) b.sel && list_all (is_cell b.space (width (space_at ns b.space).items)) b.terms)
looks_up ns (bus ls rs) = true

all_look : (p : Profile) → list_all (looks_up (machine p)) (lines (machine p)) ≡ true
all_look p = refl

at_line : (ns : List Namespace) (ls : List Line) (k : ℕ) → list_all (looks_up ns) ls ≡ true → looks_up ns (item_at ls k) ≡ true
at_line ns [] k h = refl
at_line ns (l ∷ ls) zero h = (and_parts (looks_up ns l) (list_all (looks_up ns) ls) h).0
at_line ns (l ∷ ls) (suc k) h = at_line ns ls k (and_parts (looks_up ns l) (list_all (looks_up ns) ls) h).1

-- ---- what such a side sends depends on the columns that it reads

module _ (ns : List Namespace) (d c : Columns) (s i r : ℕ) (same : (k : ℕ) → k < width (space_at ns s).items → d.at s i k r ≡ c.at s i k r) where
  cell_same : (e : Term) → is_cell s (width (space_at ns s).items) e ≡ true → value_in ns d s i r e ≡ value_in ns c s i r e
  cell_same (num n) h = absurd (false≢true h)
  cell_same (col m k b) h =
      let p = and_parts (m == s) (nat_lt k (width (space_at ns s).items) && not b) h in
      let q = and_parts (nat_lt k (width (space_at ns s).items)) (not b) p.1 in
      by b q.1 m (eqb-true m s p.0) (ltb-true k (width (space_at ns s).items) q.0)
    where
      by : (b : Bool) → not b ≡ true → (n : ℕ) → n ≡ s → k < width (space_at ns s).items → value_in ns d s i r (col n k b) ≡ value_in ns c s i r (col n k b)
      by true e n f l = absurd (false≢true e)
      by false e n f l = subst (λ n. d.at n i k r ≡ c.at n i k r) (sym f) (same k l)
  cell_same (mid m k b) h = absurd (false≢true h)
  cell_same (public k) h = absurd (false≢true h)
  cell_same (opp a) h = absurd (false≢true h)
  cell_same (a ⊕ b) h = absurd (false≢true h)
  cell_same (a ⊖ b) h = absurd (false≢true h)
  cell_same (a ⊗ b) h = absurd (false≢true h)

  tuple_same : (es : List Term) → list_all (is_cell s (width (space_at ns s).items)) es ≡ true → tuple ns d s i r es ≡ tuple ns c s i r es
  tuple_same [] h = refl
  tuple_same (e ∷ es) h =
      let p = and_parts (is_cell s (width (space_at ns s).items) e) (list_all (is_cell s (width (space_at ns s).items)) es) h in
      both _ _ _ _ (cell_same e p.0) (tuple_same es p.1)
    where
      both : (x y : ℕ) (xs ys : List ℕ) → x ≡ y → xs ≡ ys → x ∷ xs ≡ y ∷ ys
      both x y xs ys e f = cc

  selected_same : (sel : Option Term) → is_cell_selector s (width (space_at ns s).items) sel ≡ true → selected ns d s i r sel ≡ selected ns c s i r sel
  selected_same None h = refl
  selected_same (Some e) h = ap (λ v. not (v == 0)) (cell_same e h)

  row_same : (sel : Option Term) (es : List Term) → is_cell_selector s (width (space_at ns s).items) sel ≡ true → list_all (is_cell s (width (space_at ns s).items)) es ≡ true
      → row_sent ns d (record { space = s; sel = sel; terms = es }) i r ≡ row_sent ns c (record { space = s; sel = sel; terms = es }) i r
  row_same sel es h l = two _ _ _ _ (selected_same sel h) (tuple_same es l)
    where
      two : (x y : Bool) (xs ys : List ℕ) → x ≡ y → xs ≡ ys → cond x (xs ∷ []) [] ≡ cond y (ys ∷ []) []
      two x y xs ys e f = cc

pieces : {X : Type 0} (f g : ℕ → List X) (a n : ℕ) → ((k : ℕ) → k < a + n → f k ≡ g k) → flat_map f (range_with_len a n) ≡ flat_map g (range_with_len a n)
pieces {X = X} f g a zero h = refl
pieces {X = X} f g a (suc n) h = both (f a) (g a) _ _ (h a (omega arith)) (pieces f g (a + 1) n (λ k l. h k (omega arith)))
  where
    both : (x y xs ys : List X) → x ≡ y → xs ≡ ys → x ++ xs ≡ y ++ ys
    both x y xs ys e h = cc

module _ (ns : List Namespace) (d c : Columns) (few : (s : ℕ) → s < 6 → d.instances s ≡ c.instances s) (high : (s : ℕ) → d.rows s ≡ c.rows s) (wide : (s : ℕ) → d.width s ≡ width (space_at ns s).items)
    (same : (s i : ℕ) → s < 6 → i < c.instances s → IsSameInstance d c s i) where
  sent_same : (b : Tuples) → looks_up ns (lookup b b) ≡ true → sent ns d b ≡ sent ns c b
  unfolding sent
  sent_same b h =
      let p = and_parts (nat_lt b.space 6) _ h in
      let q = and_parts (is_cell_selector b.space (width (space_at ns b.space).items) b.sel) _ p.1 in
      let l = ltb-true b.space 6 p.0 in
      ap (λ m. by_rows (row_sent ns d b) m (d.rows b.space)) (few b.space l) ∙ ap (λ m. by_rows (row_sent ns d b) (c.instances b.space) m) (high b.space)
      ∙ pieces (λ i. flat_map (row_sent ns d b i) (range_with_len 0 (c.rows b.space))) (λ i. flat_map (row_sent ns c b i) (range_with_len 0 (c.rows b.space))) 0 (c.instances b.space) (λ i m.
      pieces (row_sent ns d b i) (row_sent ns c b i) 0 (c.rows b.space) (λ r n.
      row_same ns d c b.space i r (λ k o. (same b.space i l (omega arith)).values k r (subst (λ x. k < x) (sym (wide b.space)) o) (subst (λ x. r < x) (sym (high b.space)) (omega arith))) b.sel b.terms q.0 q.1))

  pub alike : list_all (looks_up ns) (lines ns) ≡ true → SendAlike ns d c
  alike h k a b e t = ap (times t) (sent_same b (right a b (subst (λ l. looks_up ns l ≡ true) e (at_line ns (lines ns) k h))))
    where
      right : (a b : Tuples) → looks_up ns (lookup a b) ≡ true → looks_up ns (lookup b b) ≡ true
      right a b h = h

pub machine_alike : (p : Profile) (d c : Columns) → ((s : ℕ) → s < 6 → d.instances s ≡ c.instances s) → ((s : ℕ) → d.rows s ≡ c.rows s) → ((s : ℕ) → d.width s ≡ width (space_at (machine p) s).items)
    → ((s i : ℕ) → s < 6 → i < c.instances s → IsSameInstance d c s i) → SendAlike (machine p) d c
machine_alike p d c few high wide same = alike (machine p) d c few high wide same (all_look p)

-- ---- no public

parts : (x y : Bool) → not (x || y) ≡ true → (not x ≡ true) × (not y ≡ true)
parts true y h = absurd (false≢true h)
parts false y h = (refl, h)

no_public : (e : Term) → not (has_public e) ≡ true → NoPublic e
no_public (num n) h = tt
no_public (col s k b) h = tt
no_public (mid s k b) h = tt
no_public (public k) h = absurd (false≢true h)
no_public (opp a) h = no_public a h
no_public (a ⊕ b) h = let p = parts (has_public a) (has_public b) h in (no_public a p.0, no_public b p.1)
no_public (a ⊖ b) h = let p = parts (has_public a) (has_public b) h in (no_public a p.0, no_public b p.1)
no_public (a ⊗ b) h = let p = parts (has_public a) (has_public b) h in (no_public a p.0, no_public b p.1)

abbrev pub none_in : List Term → Bool
none_in es = list_all (λ e. not (has_public e)) es

none_in_all : (es : List Term) → none_in es ≡ true → All NoPublic es
none_in_all [] h = All-nil NoPublic
none_in_all (e ∷ es) h = let p = and_parts (not (has_public e)) (none_in es) h in All-cons NoPublic e es (no_public e p.0) (none_in_all es p.1)

abbrev pub none_in_selector : Option Term → Bool
none_in_selector None = true
none_in_selector (Some e) = not (has_public e)

abbrev pub none_in_list : Tuples → Bool
none_in_list a = none_in_selector a.sel && none_in a.terms

selector_none : (sel : Option Term) → none_in_selector sel ≡ true → NoneInSelector sel
selector_none None h = tt
selector_none (Some e) h = no_public e h

list_none : (a : Tuples) → none_in_list a ≡ true → NoneInList a
list_none a h = let p = and_parts (none_in_selector a.sel) (none_in a.terms) h in (selector_none a.sel p.0, none_in_all a.terms p.1)

lists_none : (ls : List Tuples) → list_all none_in_list ls ≡ true → All NoneInList ls
lists_none [] h = All-nil NoneInList
lists_none (a ∷ ls) h = let p = and_parts (none_in_list a) (list_all none_in_list ls) h in All-cons NoneInList a ls (list_none a p.0) (lists_none ls p.1)

abbrev pub none_in_item : Line → Bool
none_in_item (constant n len) = true
none_in_item (commit n len) = true
none_in_item (inter n e) = not (has_public e)
none_in_item (published n s k r) = true
none_in_item (identity s a b) = not (has_public a) && not (has_public b)
none_in_item (lookup a b) = none_in_list a && none_in_list b
none_in_item (bus ls rs) = list_all none_in_list ls && list_all none_in_list rs

item_none : (l : Line) → none_in_item l ≡ true → NoneInItem l
item_none (constant n len) h = tt
item_none (commit n len) h = tt
item_none (inter n e) h = no_public e h
item_none (published n s k r) h = tt
item_none (identity s a b) h = let p = and_parts (not (has_public a)) (not (has_public b)) h in (no_public a p.0, no_public b p.1)
item_none (lookup a b) h = let p = and_parts (none_in_list a) (none_in_list b) h in (list_none a p.0, list_none b p.1)
item_none (bus ls rs) h = let p = and_parts (list_all none_in_list ls) (list_all none_in_list rs) h in (lists_none ls p.0, lists_none rs p.1)

at_item : (ls : List Line) (k : ℕ) → list_all none_in_item ls ≡ true → none_in_item (item_at ls k) ≡ true
at_item [] k h = refl
at_item (l ∷ ls) zero h = (and_parts (none_in_item l) (list_all none_in_item ls) h).0
at_item (l ∷ ls) (suc k) h = at_item ls k (and_parts (none_in_item l) (list_all none_in_item ls) h).1

at_each : (ns : List Namespace) (s k : ℕ) → list_all (λ n. list_all none_in_item n.items) ns ≡ true → none_in_item (item_at (space_at ns s).items k) ≡ true
at_each [] s k h = refl
at_each (n ∷ ns) zero k h = at_item n.items k (and_parts (list_all none_in_item n.items) (list_all (λ m. list_all none_in_item m.items) ns) h).0
at_each (n ∷ ns) (suc s) k h = at_each ns s k (and_parts (list_all none_in_item n.items) (list_all (λ m. list_all none_in_item m.items) ns) h).1

all_none : (p : Profile) → list_all (λ n. list_all none_in_item n.items) (machine p) ≡ true
all_none p = refl

pub none_is_named : (p : Profile) → NoneIsNamed (machine p)
none_is_named p s k = item_none (item_at (space_at (machine p) s).items k) (at_each (machine p) s k (all_none p))
