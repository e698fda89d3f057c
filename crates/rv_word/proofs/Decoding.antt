-- `decoded` gives what `Is` relates to the word: no two rows have the fields of one word.
use Rattle.std.proofs.Common.{◌≡◌, ◌==◌, ◌&&◌, ◌<◌, inl, inr, ℕ, zero, suc, Bool, true, not, List, [], ◌∷◌, Option, Some, IfSome, refl, ap, sym, ◌∙◌, subst, arith, length, slice_index_or}
use Rattle.std.specs.List.{All, Any, find, list_any, list_all}
use Rattle.std.specs.Option.{option_map}
use Rattle.std.proofs.lemmas.Bool.{eqb-true, eq-eqb, and_parts, and_from, or_cases, false_from_ne_true, not-true, eqb-false, cond_both, cond-true, cond-false}
use Rattle.std.proofs.lemmas.List.Sums.{AllPass-from_list_all}
use Rattle.std.proofs.lemmas.Option.{IfSome_then}
use Rattle.rv_word.specs.Fields.{bits_at}
use Rattle.rv_word.specs.Table.{Field, Row, rows}
use Rattle.rv_word.specs.Is.{Is, Has, has, decoded}
use Rattle.rv_word.specs.declared.instr.Instr.{Instr}

has-true : (w : ℕ) (fs : List Field) → has w fs ≡ true → Has w fs
has-true w [] e = tt
has-true w (f ∷ fs) e = let parts = and_parts _ _ e in (eqb-true _ _ parts.0, has-true w fs parts.1)

has-from_Has : (w : ℕ) (fs : List Field) → Has w fs → has w fs ≡ true
has-from_Has w [] h = refl
has-from_Has w (f ∷ fs) h = and_from _ _ (eq-eqb _ _ h.0) (has-from_Has w fs h.1)

-- two fields that no word has both: two values of the same bits
abbrev differ : Field → Field → Bool
differ f g = ((f.low == g.low) && (f.len == g.len)) && not (f.value == g.value)

abbrev are_apart : List Field → List Field → Bool
are_apart fs gs = list_any (λ f. list_any (λ g. differ f g) gs) fs

differ-not_both : (w : ℕ) (f g : Field) → differ f g ≡ true → bits_at f.low f.len w ≡ f.value → bits_at g.low g.len w ≡ g.value → ⊥
differ-not_both w f g e h k =
    let parts = and_parts _ _ e in
    let same = and_parts _ _ parts.0 in
    let low = eqb-true f.low g.low same.0 in
    let len = eqb-true f.len g.len same.1 in
    eqb-false f.value g.value (not-true _ parts.1) (cc (h, k, low, len))

apart_field : (w : ℕ) (f : Field) (gs : List Field) → list_any (λ g. differ f g) gs ≡ true → bits_at f.low f.len w ≡ f.value → Has w gs → ⊥
apart_field w f [] e h k = absurd (cc e)
apart_field w f (g ∷ gs) e h k =
    elim (or_cases (differ f g) (list_any (λ g. differ f g) gs) e) [ inl d ↦ differ-not_both w f g d h k.0 | inr d ↦ apart_field w f gs d h k.1 ]

apart : (w : ℕ) (fs gs : List Field) → are_apart fs gs ≡ true → Has w fs → Has w gs → ⊥
apart w [] gs e h k = absurd (cc e)
apart w (f ∷ fs) gs e h k =
    elim (or_cases (list_any (λ g. differ f g) gs) (are_apart fs gs) e) [ inl d ↦ apart_field w f gs d h.0 k | inr d ↦ apart w fs gs d h.1 k ]

abbrev are_distinct : List Row → Bool
are_distinct [] = true
are_distinct (r ∷ rs) = list_all (λ s. are_apart r.fields s.fields) rs && are_distinct rs

rows_distinct : are_distinct rows ≡ true
unfolding rows
rows_distinct = refl

-- what `Is` and `decoded` say, of any list of rows
abbrev reads : ℕ → Instr → Row → Type 0
reads w i r = Has w r.fields × (i ≡ r.instruction w)

abbrev read : ℕ → Option Row → Option Instr
read w o = option_map (λ r. r.instruction w) o

abbrev first : ℕ → List Row → Option Row
first w rs = find (λ r. has w r.fields) rs

found_in : (w : ℕ) (rs : List Row) → IfSome (read w (first w rs)) (λ i. Any (λ r. reads w i r) rs)
found_in w [] = tt
found_in w (r ∷ rs) =
    cond_both (has w r.fields) (Some r) (first w rs) (λ o. IfSome (read w o) (λ i. Any (λ r. reads w i r) (r ∷ rs)))
    (λ e. (0, r, omega arith, refl, (has-true w r.fields e, refl)))
    (λ e. IfSome_then (read w (first w rs)) (found_in w rs) (λ i a. (suc a.0, a.1, omega (arith, a.2), a.3, a.4)))

only_in : (w : ℕ) (i : Instr) (rs : List Row) (k : ℕ) (x : Row) → are_distinct rs ≡ true → k < length rs → slice_index_or rs k x ≡ x → reads w i x → read w (first w rs) ≡ Some i
only_in w i [] k x d lt at q = absurd (omega arith)
only_in w i (r ∷ rs) zero x d lt at q =
    let own : reads w i r = subst (λ (r : Row). reads w i r) (sym at) q in
    ap (λ (o : Option Row). read w o) (cond-true (has w r.fields) (Some r) (first w rs) (has-from_Has w r.fields own.0)) ∙ ap (λ (i : Instr). Some i) (sym own.1)
only_in w i (r ∷ rs) (suc k) x d lt at q =
    let parts = and_parts (list_all (λ s. are_apart r.fields s.fields) rs) (are_distinct rs) d in
    let inside : k < length rs = omega arith in
    let away = subst (λ (s : Row). are_apart r.fields s.fields ≡ true) at (AllPass-from_list_all (λ s. are_apart r.fields s.fields) rs parts.0 k x inside) in
    let other = false_from_ne_true (has w r.fields) (λ e. apart w r.fields x.fields away (has-true w r.fields e) q.0) in
    ap (λ (o : Option Row). read w o) (cond-false (has w r.fields) (Some r) (first w rs) other) ∙ only_in w i rs k x parts.1 inside at q

pub found : (w : ℕ) → IfSome (decoded w) (λ i. Is w i)
unfolding decoded Is
found w = found_in w rows

pub only : (w : ℕ) (i : Instr) → Is w i → decoded w ≡ Some i
unfolding decoded Is
only w i (k, x, lt, at, q) = only_in w i rows k x rows_distinct lt at q

-- what holds of each row holds of the row that `Is` names
pub by_rows : (P : Row → Type 0) (w : ℕ) (i : Instr) → All P rows → Is w i → (r : Row) × P r × Has w r.fields × (i ≡ r.instruction w)
unfolding Is
by_rows P w i all (k, x, lt, at, q) = (x, subst P at (all k x lt), q.0, q.1)
