-- The steps of the search.
use Rattle.std.proofs.Common.{ℕ, ◌≡◌, ◌<◌, ◌+◌, Bool, true, false, not, cond, ◌⊎◌, inl, inr, List, [], ◌∷◌, ◌++◌, length, get_or, set, refl, sym, ◌∙◌, ap, subst, arith, slice_get, Some, replicate, Contains, count_by, length-append, length-set}
use Rattle.std.proofs.lemmas.Bool.{cases_eq}
use Rattle.std.proofs.lemmas.Option.{slice_get-get_or}
use Rattle.std.proofs.lemmas.List.{length-replicate, get_or_append_left}
use Rattle.std.proofs.Math.Seq.{get_or-append_seam}
use Rattle.std.specs.List.{AllPairs, All}
use Rattle.std.proofs.lemmas.List.Elements.{All-nil, All-push, Contains-append_left, Contains-push, Contains-push_cases}
use Rattle.std.proofs.lemmas.List.Quantifiers.{all_pairs_push}
use Rattle.std.proofs.lemmas.List.Sums.{sum_by-set}
use Rattle.pil_cycles.specs.Paths.{step, Reaches}
use Rattle.pil_cycles.specs.Finish.{IsFinished, IsFound, IsVisit}
use Rattle.pil_cycles.proofs.Paths.{reaches_join}
use Rattle.pil_cycles.proofs.Lists.{slice_get-set_same, slice_get-set_other, after_set, slice_get-push, slice_get-replicate, pairs_front, pairs_last, pairs_contained, all_front, all_last, nothing_in}

-- what was found is found after one more
pub found_more : (found : List Bool) (k b : ℕ) → k < length found → IsFound found b → IsFound (set found k true) b
found_more found k b fits h = elim (cases_eq b k) as (λ u. IsFound (set found k true) b) [
  | inl e ↦ subst (λ x. IsFound (set found k true) x) (sym e) (slice_get-set_same found k true fits)
  | inr ne ↦ slice_get-set_other found k b true ne ∙ h
]

-- an item that is found goes onto the stack, where all others lead to it
pub opens : (E : ℕ → ℕ → Type 0) (count : ℕ) (found : List Bool) (stack more order : List ℕ) (k : ℕ) → IsVisit E count found stack order → more ≡ stack ++ k ∷ [] → k < count → ¬ IsFound found k → ((j d : ℕ) → j < length stack → Reaches E (get_or stack j d) k) → IsVisit E count (set found k true) more order
opens E count found stack more order k h same inside new low =
    let fits : k < length found = omega (arith, h.long) in
    subst (λ s. IsVisit E count (set found k true) s order) (sym same)
    record {
      long = length-set found _ _ ∙ h.long;
      placed = λ j e. elim (after_set found k j true true fits e) as (λ u. Contains (stack ++ k ∷ []) j ⊎ Contains order j) [
        | inl w ↦ inl (subst (λ i. Contains (stack ++ k ∷ []) i) (sym w.0) (Contains-push stack k))
        | inr w ↦ elim (h.placed j w.1) as (λ u. Contains (stack ++ k ∷ []) j ⊎ Contains order j) [ inl c ↦ inl (Contains-append_left stack (k ∷ []) j c) | inr c ↦ inr c ]
      ];
      leads = λ i a b at e. found_more found k b fits (h.leads i a b at e);
      stack_inside = All-push (λ i. i < count) stack k h.stack_inside inside;
      order_inside = h.order_inside;
      chain = all_pairs_push (Reaches E) stack k h.chain low;
      covered = h.covered;
      waited = λ i p a v b l at there on e. elim (Contains-push_cases stack k b on) as (λ u. Reaches E b v) [
        | inl c ↦ h.waited i p a v b l at there c e
        | inr s ↦ absurd (new (subst (λ x. IsFound found x) (sym s) (h.leads i a b at e)))
      ];
    }

-- all on the stack lead to what its top leads to
pub below_top : (E : ℕ → ℕ → Type 0) (count : ℕ) (found : List Bool) (stack rest order : List ℕ) (item named : ℕ) → IsVisit E count found stack order → stack ≡ rest ++ item ∷ [] → E item named → (j d : ℕ) → j < length stack → Reaches E (get_or stack j d) named
below_top E count found stack rest order item named h same e j d l =
    let chain : AllPairs (Reaches E) (rest ++ item ∷ []) = subst (λ s. AllPairs (Reaches E) s) same h.chain in
    let size : length stack ≡ length rest + 1 = ap length same ∙ length-append rest (item ∷ []) in
    elim (cases_eq j (length rest)) as (λ u. Reaches E (get_or stack j d) named) [
      | inl last ↦
          let top : get_or stack j d ≡ item = ap (λ s. get_or s j d) same ∙ ap (λ n. get_or (rest ++ item ∷ []) n d) last ∙ get_or-append_seam rest item [] d in
          subst (λ x. Reaches E x named) (sym top) (inr (step item named e))
      | inr ne ↦
          let before : j < length rest = omega arith in
          let here : get_or stack j d ≡ get_or rest j d = ap (λ s. get_or s j d) same ∙ get_or_append_left rest (item ∷ []) d j before in
          subst (λ x. Reaches E x named) (sym here) (reaches_join E (get_or rest j d) item named (pairs_last (Reaches E) rest item j d chain before) (inr (step item named e)))
    ]

-- an item that leads to none but what was found goes from the stack to the order
pub closes : (E : ℕ → ℕ → Type 0) (count : ℕ) (found : List Bool) (stack rest order more : List ℕ) (item : ℕ) → IsVisit E count found stack order → stack ≡ rest ++ item ∷ [] → more ≡ order ++ item ∷ [] → ((b : ℕ) → E item b → IsFound found b) → IsVisit E count found rest more
closes E count found stack rest order more item h same longer all =
    let chain : AllPairs (Reaches E) (rest ++ item ∷ []) = subst (λ s. AllPairs (Reaches E) s) same h.chain in
    let inside : All (λ k. k < count) (rest ++ item ∷ []) = subst (λ s. All (λ k. k < count) s) same h.stack_inside in
    let on_top : Contains stack item = subst (λ s. Contains s item) (sym same) (Contains-push rest item) in
    subst (λ s. IsVisit E count found rest s) (sym longer)
    record {
      long = h.long;
      placed = λ j e. elim (h.placed j e) as (λ u. Contains rest j ⊎ Contains (order ++ item ∷ []) j) [
        | inl c ↦ elim (Contains-push_cases rest item j (subst (λ s. Contains s j) same c)) as (λ u. Contains rest j ⊎ Contains (order ++ item ∷ []) j) [
          | inl d ↦ inl d
          | inr s ↦ inr (subst (λ x. Contains (order ++ item ∷ []) x) s (Contains-push order item))
        ]
        | inr c ↦ inr (Contains-append_left order (item ∷ []) j c)
      ];
      leads = λ i a b at e. elim (slice_get-push order item a i at) as (λ u. IsFound found b) [
        | inl w ↦ h.leads i a b w.1 e
        | inr w ↦ all b (subst (λ x. E x b) (sym w.1) e)
      ];
      stack_inside = all_front (λ k. k < count) rest item inside;
      order_inside = All-push (λ k. k < count) order item h.order_inside (all_last (λ k. k < count) rest item inside);
      chain = pairs_front (Reaches E) rest item chain;
      covered = λ i p j a v b l m at there to e. elim (slice_get-push order item b j to) as (λ u. Reaches E b v) [
        | inl w ↦ elim (slice_get-push order item v p there) as (λ u. Reaches E b v) [
          | inl y ↦ elim (slice_get-push order item a i at) as (λ u. Reaches E b v) [
            | inl x ↦ h.covered i p j a v b l m x.1 y.1 w.1 e
            | inr x ↦ absurd (omega arith)
          ]
          | inr y ↦ absurd (omega arith)
        ]
        | inr w ↦ elim (slice_get-push order item v p there) as (λ u. Reaches E b v) [
          | inl y ↦ elim (slice_get-push order item a i at) as (λ u. Reaches E b v) [
            | inl x ↦ h.waited i p a v b l x.1 y.1 (subst (λ x. Contains stack x) w.1 on_top) e
            | inr x ↦ absurd (omega arith)
          ]
          | inr y ↦ inl (sym w.1 ∙ y.1)
        ]
      ];
      waited = λ i p a v b l at there on e. elim (slice_get-push order item v p there) as (λ u. Reaches E b v) [
        | inl y ↦ elim (slice_get-push order item a i at) as (λ u. Reaches E b v) [
          | inl x ↦ h.waited i p a v b l x.1 y.1 (subst (λ s. Contains s b) (sym same) (Contains-append_left rest (item ∷ []) b on)) e
          | inr x ↦ absurd (omega arith)
        ]
        | inr y ↦ subst (λ x. Reaches E b x) y.1 (pairs_contained (Reaches E) rest item b chain on)
      ];
    }

-- the top of the stack is inside
pub top_inside : (E : ℕ → ℕ → Type 0) (count : ℕ) (found : List Bool) (stack rest order : List ℕ) {item : ℕ} → IsVisit E count found stack order → stack ≡ rest ++ item ∷ [] → item < count
top_inside E count found stack rest order {item} h same = all_last (λ k. k < count) rest item (subst (λ s. All (λ k. k < count) s) same h.stack_inside)

-- how many items aren't found
abbrev pub new_count : List Bool → ℕ
new_count found = count_by not found

pub new_count-found : (found : List Bool) (k : ℕ) → k < length found → ¬ IsFound found k → new_count (set found k true) + 1 ≡ new_count found
new_count-found found k fits new =
    let was : get_or found k false ≡ false = of_bool (get_or found k false) (slice_get-get_or found k false fits) in
    let one : Bool → ℕ = λ s. cond (not s) 1 0 in
    let before : one (get_or found k false) ≡ 1 = ap one was in
    let sum : new_count (set found k true) + one (get_or found k false) ≡ new_count found + 0 = sum_by-set one found k true false fits in
    omega (arith, before, sum)
  where
    of_bool : (b : Bool) → slice_get found k ≡ Some b → b ≡ false
    of_bool false e = refl
    of_bool true e = absurd (new e)

pub search-begin : (E : ℕ → ℕ → Type 0) (count : ℕ) (found : List Bool) → found ≡ replicate count false → IsVisit E count found [] []
search-begin E count found same =
    let none : (k : ℕ) → IsFound found k → ⊥ = λ k e. let b : false ≡ true = slice_get-replicate count k false true (subst (λ s. slice_get s k ≡ Some true) same e) in cc in
    record {
      long = ap length same ∙ length-replicate count false;
      placed = λ k e. absurd (none k e);
      leads = λ i a b at e. let n : ⊥ = cc in absurd n;
      stack_inside = All-nil (λ k. k < count);
      order_inside = All-nil (λ k. k < count);
      chain = λ i j d before l. absurd (omega arith);
      covered = λ i p j a v b l m at there to e. let n : ⊥ = cc in absurd n;
      waited = λ i p a v b l at there on e. let n : ⊥ = cc in absurd n;
    }

-- a search that found all items has them all in order
pub search-end : (E : ℕ → ℕ → Type 0) (count : ℕ) (found : List Bool) (order : List ℕ) → IsVisit E count found [] order → ((k : ℕ) → k < count → IsFound found k) → IsFinished E count order
search-end E count found order h all = record {
  inside = h.order_inside;
  all = λ k l. elim (h.placed k (all k l)) as (λ u. Contains order k) [ inl c ↦ absurd (nothing_in k c) | inr c ↦ c ];
  covered = h.covered;
}
