-- Completeness: the lines that hold by what is known of the columns alone, and what has to be shown of the others.
use Rattle.std.proofs.Common.{ℕ, zero, suc, ◌≤◌, ◌≡◌, inl, inr, Bool, true, false, not, eqb, ltb, leb, ◌&&◌, ◌||◌, map, List, [], ◌∷◌, Option, Some, None, refl, sym, ap, ◌∙◌, arith}
use Rattle.std.proofs.lemmas.Bool.{leb-true, and_parts, or_cases, false≢true}
use Rattle.pil_ast.specs.Term.{Tuples, Term, Line, identity, lookup, Namespace, item_at}
use Rattle.pil_ast.specs.Columns.{Columns}
use Rattle.pil_ast.specs.Value.{Cells, value}
use Rattle.pil_ast.specs.Holds.{chosen, sent}
use Rattle.pil_exact.specs.Row.{Says}
use Rattle.pil_exact.specs.Tables.{SmallTables}
use Rattle.pil_exact.proofs.Reading.{top}
use Rattle.pil_exact.proofs.Row.{Fact, Row, read, left, right, Equal, plainly, plainly_is, reduced, is_number, is_none, amount, amount_le, equal_values}
use Rattle.pil_exact.proofs.Small.{IsTable, Entry, HasTable, AllTables, AllSmall, tables_of, IsShape, is_entry}

-- the value is shown to be at most m
abbrev pub is_below : List Line → Cells → ℕ → (ℕ → List (ℕ × Fact)) → ℕ → Term → Bool
is_below items x home facts m e = (is_number items x home facts e && is_none (read items x home facts e).down) && leb (top (read items x home facts e).up) m

-- the selector is shown to be 0
abbrev pub is_unselected : List Line → Cells → ℕ → (ℕ → List (ℕ × Fact)) → Option Term → Bool
is_unselected items x home facts None = false
is_unselected items x home facts (Some e) = is_below items x home facts 0 e

-- the values are shown to be an entry of the table with this number
abbrev pub is_entry_of : List Line → Cells → ℕ → (ℕ → List (ℕ × Fact)) → ℕ → List Term → Bool
is_entry_of items x home facts zero (a ∷ []) = is_below items x home facts 1 a
is_entry_of items x home facts (suc zero) (a ∷ []) = is_below items x home facts 65535 a
is_entry_of items x home facts (suc (suc zero)) (a ∷ b ∷ []) = is_below items x home facts 255 a && is_below items x home facts 255 b
is_entry_of items x home facts _ _ = false

-- what is known shows the line
abbrev pub follows : List Line → Cells → ℕ → (ℕ → List (ℕ × Fact)) → Line → Bool
follows items x home facts (identity s a b) = (reduced items a && reduced items b) && plainly (left (read items x home facts a) (read items x home facts b)) (right (read items x home facts a) (read items x home facts b))
follows items x home facts (lookup a b) = is_unselected items x home facts a.sel || is_entry_of items x home facts b.space a.terms
follows items x home facts _ = true

-- of a look-up in a small table that the values are an entry, and else what the line says
abbrev pub Owed : List Line → Cells → (Tuples → List (List ℕ)) → Tuples → Tuples → Bool → Type 0
Owed items x f a b true = Entry b.space (map (value items x) a.terms) × IsShape b.space a.terms
Owed items x f a b false = Says items x f (lookup a b)

-- what has to be shown of a line that doesn't follow
abbrev pub Needs : List Line → Cells → ℕ → (ℕ → List (ℕ × Fact)) → (Tuples → List (List ℕ)) → Line → Type 0
Needs items x home facts f (identity s a b) = Equal items x home facts (identity s a b) × ((reduced items a && reduced items b) ≡ true)
Needs items x home facts f (lookup a b) = Owed items x f a b (ltb b.space 3)
Needs items x home facts f _ = Unit {0}

abbrev pub Rest : List Line → Cells → ℕ → (ℕ → List (ℕ × Fact)) → (Tuples → List (List ℕ)) → List Line → Type 0
Rest items x home facts f [] = Unit {0}
Rest items x home facts f (l ∷ ls) = elim (follows items x home facts l) [ true ↦ Rest items x home facts f ls | false ↦ Needs items x home facts f l × Rest items x home facts f ls ]

module _ (ns : List Namespace) (c : Columns) (tables : SmallTables c) {items : List Line} {x : Cells} {home : ℕ} {facts : ℕ → List (ℕ × Fact)} (row : Row items x home facts) where
  below : (m : ℕ) (e : Term) → is_below items x home facts m e ≡ true → value items x e ≤ m
  below m e q =
      let s = and_parts _ _ q in
      at_most _ _ _ m (amount row e s.0) (amount_le row e) (leb-true _ _ s.1)
    where
      at_most : (v u t m : ℕ) → v ≡ u → u ≤ t → t ≤ m → v ≤ m
      at_most v u t m e h k = omega arith

  off : (o : Option Term) → is_unselected items x home facts o ≡ true → chosen items x o ≡ false
  off None q = absurd (false≢true q)
  off (Some e) q = unchosen _ (below 0 e q)
    where
      unchosen : (v : ℕ) → v ≤ 0 → not (eqb v 0) ≡ false
      unchosen v h = ap (λ z. not (eqb z 0)) (none v h)
        where
          none : (v : ℕ) → v ≤ 0 → v ≡ 0
          none v h = omega arith

  entry_from : (s : ℕ) (es : List Term) → is_entry_of items x home facts s es ≡ true → Entry s (map (value items x) es) × IsShape s es
  entry_from zero (a ∷ []) q = (below 1 a q, tt)
  entry_from (suc zero) (a ∷ []) q = (below 65535 a q, tt)
  entry_from (suc (suc zero)) (a ∷ b ∷ []) q = let s = and_parts _ _ q in ((below 255 a s.0, below 255 b s.1), tt)
  entry_from _ _ q = absurd (false≢true q)

  owed : (a b : Tuples) (t : Bool) → IsTable b.space a.terms b → Owed items x (sent ns c) a b t → Says items x (sent ns c) (lookup a b)
  owed a b true e h = λ o. is_entry ns c tables (value items x) b.space a.terms b e h.1 h.0
  owed a b false e h = h

  shown : (l : Line) → HasTable l → Needs items x home facts (sent ns c) l → Says items x (sent ns c) l
  shown (identity s a b) e h = equal_values row (identity s a b) h.1 h.0
  shown (lookup a b) e h = owed a b (ltb b.space 3) e h
  shown _ e h = tt

  by_facts : (l : Line) → HasTable l → follows items x home facts l ≡ true → Says items x (sent ns c) l
  by_facts (identity s a b) e q =
      let t = and_parts _ _ q in
      equal_values row (identity s a b) t.0 (plainly_is (left (read items x home facts a) (read items x home facts b)) (right (read items x home facts a) (read items x home facts b)) t.1)
  by_facts (lookup a b) e q = elim (or_cases _ _ q) [
    | inl z ↦ (λ o. absurd (false≢true (sym (off a.sel z) ∙ o)))
    | inr z ↦ (λ o. let t = entry_from b.space a.terms z in is_entry ns c tables (value items x) b.space a.terms b e t.1 t.0)
  ]
  by_facts _ e q = tt

  one_says : (l : Line) (ls : List Line) (b : Bool) → follows items x home facts l ≡ b → HasTable l → elim b as (λ z. Type 0) [ true ↦ Rest items x home facts (sent ns c) ls | false ↦ Needs items x home facts (sent ns c) l × Rest items x home facts (sent ns c) ls ] → Says items x (sent ns c) l × Rest items x home facts (sent ns c) ls
  one_says l ls true q e h = (by_facts l e q, h)
  one_says l ls false q e h = (shown l e h.0, h.1)

  -- Each line holds, where the rest is shown.
  pub all_told : (ls : List Line) → AllTables ls → Rest items x home facts (sent ns c) ls → (k : ℕ) → Says items x (sent ns c) (item_at ls k)
  all_told [] e h k = refl
  all_told (l ∷ ls) e h zero = (one_says l ls (follows items x home facts l) refl e.0 h).0
  all_told (l ∷ ls) e h (suc k) = all_told ls e.1 (one_says l ls (follows items x home facts l) refl e.0 h).1 k

  -- The same where one selector or none is that of each look-up.
  pub all_said : (sel : Term) (ls : List Line) → AllSmall sel ls → Rest items x home facts (sent ns c) ls → (k : ℕ) → Says items x (sent ns c) (item_at ls k)
  all_said sel ls e h k = all_told ls (tables_of sel ls e) h k
