-- The steps of the search for an order.
use Rattle.std.proofs.Common.{ℕ, zero, suc, ◌≡◌, ◌≢◌, ◌<◌, ◌≤◌, ◌+◌, Bool, true, false, cond, ◌⊎◌, inl, inr, List, [], ◌∷◌, ◌++◌, length, get_or, set, take, refl, sym, ◌∙◌, ap, subst, arith, slice_get, Some, replicate, Contains, count_by, length-append, length-set}
use Rattle.std.proofs.lemmas.Bool.{cases_eq}
use Rattle.std.proofs.lemmas.Option.{slice_get_within, slice_get-get_or, get_or_from_slice_get}
use Rattle.std.proofs.lemmas.List.{get_or_append_left, take-append-le}
use Rattle.std.proofs.Math.Seq.{get_or-append_seam, take-append_seam}
use Rattle.std.proofs.lemmas.List.Elements.{All-nil, All-push, Contains-append_left, Contains-push, Contains-push_cases}
use Rattle.std.proofs.lemmas.List.Quantifiers.{all_pairs_push}
use Rattle.std.proofs.lemmas.List.Sums.{sum_by-set}
use Rattle.pil_ast.specs.declared.order.State.{State}
use Rattle.pil_ast.specs.declared.order.State.TheVariants.{New, Open, Done}
use Rattle.pil_ast.specs.Term.{Line, item_at, inter_at}
use Rattle.pil_ast.specs.Sound.{Names, NamesOnly, IsInter, IsRanked, IsAcyclic}
use Rattle.pil_ast.specs.Order.{IsOrder, IsWhole, IsSearch, IsDone, KeepsFound}
use Rattle.pil_ast.proofs.Parts.{named_one, names_weaker}

pub slice_get-set_same : {X : Type 0} (xs : List X) (i : ℕ) (v : X) → i < length xs → slice_get (set xs i v) i ≡ Some v
slice_get-set_same [] i v h = absurd (omega arith)
slice_get-set_same (x ∷ xs) zero v h = refl
slice_get-set_same (x ∷ xs) (suc i) v h = slice_get-set_same xs i v (omega arith)

pub slice_get-set_other : {X : Type 0} (xs : List X) (i k : ℕ) (v : X) → k ≢ i → slice_get (set xs i v) k ≡ slice_get xs k
slice_get-set_other [] i k v h = refl
slice_get-set_other (x ∷ xs) zero zero v h = absurd (h refl)
slice_get-set_other (x ∷ xs) zero (suc k) v h = refl
slice_get-set_other (x ∷ xs) (suc i) zero v h = refl
slice_get-set_other (x ∷ xs) (suc i) (suc k) v h = slice_get-set_other xs i k v (λ e. h (ap suc e))

-- what stands at k after a write at i
pub after_set : (xs : List State) (i k : ℕ) (v w : State) → i < length xs → slice_get (set xs i v) k ≡ Some w → ((k ≡ i) × (v ≡ w)) ⊎ ((k ≢ i) × (slice_get xs k ≡ Some w))
after_set xs i k v w h e =
    elim (cases_eq k i) [
      | inl p ↦
          let q : slice_get (set xs i v) k ≡ Some v = subst (λ j. slice_get (set xs i v) j ≡ Some v) (sym p) (slice_get-set_same xs i v h) in
          let s : v ≡ w = cc in
          inl (p, s)
      | inr p ↦ inr (p, sym (slice_get-set_other xs i k v p) ∙ e)
    ]

-- an element of a list with one more at its end
pub slice_get-push : {X : Type 0} (xs : List X) (y x : X) (j : ℕ) → slice_get (xs ++ y ∷ []) j ≡ Some x → ((j < length xs) × (slice_get xs j ≡ Some x)) ⊎ ((j ≡ length xs) × (y ≡ x))
slice_get-push [] y x zero e = let s : y ≡ x = cc in inr (refl, s)
slice_get-push [] y x (suc j) e = let n : ⊥ = cc in absurd n
slice_get-push (z ∷ xs) y x zero e = inl (omega arith, e)
slice_get-push (z ∷ xs) y x (suc j) e = elim (slice_get-push xs y x j e) [ inl (l, p) ↦ inl (omega arith, p) | inr (l, p) ↦ inr (ap suc l, p) ]

-- an item that is opened goes onto the stack, where it ranks below all others
pub opens : (items : List Line) (states : List State) (stack more order : List ℕ) (k : ℕ) → IsSearch items states stack order → more ≡ stack ++ k ∷ [] → k < length items → ((rank : ℕ → ℕ) → IsRanked items rank → (j d : ℕ) → j < length stack → rank k < rank (get_or stack j d)) → IsSearch items (set states k Open) more order
opens items states stack more order k h same inside low =
    let fits : k < length states = omega (arith, h.long) in
    subst (λ s. IsSearch items (set states k Open) s order) (sym same)
    record {
      long = length-set states _ _ ∙ h.long;
      done = λ j e. elim (after_set states k j Open Done fits e) [ inl w ↦ let n : ⊥ = cc w.1 in absurd n | inr w ↦ h.done j w.1 ];
      open_ones = λ j e. elim (after_set states k j Open Open fits e) [
        | inl w ↦ subst (λ i. Contains (stack ++ k ∷ []) i) (sym w.0) (Contains-push stack k)
        | inr w ↦ Contains-append_left stack (k ∷ []) j (h.open_ones j w.1)
      ];
      inside = All-push (λ i. i < length items) stack k h.inside inside;
      falls = λ rank ranked. all_pairs_push (λ a b. rank b < rank a) stack k (h.falls rank ranked) (low rank ranked);
      ordered = h.ordered;
    }

-- one that the top of the stack names ranks below all on the stack
pub named_low : (items : List Line) (states : List State) (stack rest order : List ℕ) (item named : ℕ) → IsSearch items states stack order → stack ≡ rest ++ item ∷ [] → Names (inter_at items item) named → (rank : ℕ → ℕ) → IsRanked items rank → (j d : ℕ) → j < length stack → rank named < rank (get_or stack j d)
named_low items states stack rest order item named h same names rank ranked j d inside =
    let below : rank named < rank item = named_one (λ i. rank i < rank item) (inter_at items item) named (ranked.falling item) names in
    let size : length stack ≡ length rest + 1 = ap length same ∙ length-append rest (item ∷ []) in
    let top : get_or stack (length rest) d ≡ item = ap (λ s. get_or s (length rest) d) same ∙ get_or-append_seam rest item [] d in
    elim (cases_eq j (length rest)) [
      | inl e ↦ subst (λ i. rank named < rank (get_or stack i d)) (sym e) (subst (λ i. rank named < rank i) (sym top) below)
      | inr ne ↦
          let fall : rank (get_or stack (length rest) d) < rank (get_or stack j d) = h.falls rank ranked j (length rest) d (omega arith) (omega arith) in
          let same' : rank (get_or stack (length rest) d) ≡ rank item = ap rank top in
          omega arith
    ]

-- one that the top of the stack names and that isn't done is new
pub named_new : (items : List Line) (states : List State) (stack rest order : List ℕ) (item named : ℕ) → IsAcyclic items → IsSearch items states stack order → stack ≡ rest ++ item ∷ [] → Names (inter_at items item) named → named < length states → ¬ IsDone states named → slice_get states named ≡ Some New
named_new items states stack rest order item named acyclic h same names fits undone =
    let e : slice_get states named ≡ Some (get_or states named New) = slice_get-get_or states named New fits in
    of_state (get_or states named New) e
  where
    of_state : (s : State) → slice_get states named ≡ Some s → slice_get states named ≡ Some New
    of_state New e = e
    of_state Done e = absurd (undone e)
    of_state Open e =
        let on = h.open_ones named e in
        let low : acyclic.0 named < acyclic.0 (get_or stack on.0 named) = named_low items states stack rest order item named h same names acyclic.0 acyclic.1 on.0 named on.1 in
        let here : acyclic.0 (get_or stack on.0 named) ≡ acyclic.0 named = ap acyclic.0 on.2 in
        absurd (omega arith)

-- the order stays one when an item follows all that it names
pub order-push : (items : List Line) (order : List ℕ) (k : ℕ) → IsOrder items order → k < length items → NamesOnly (Contains order) (inter_at items k) → IsOrder items (order ++ k ∷ [])
order-push items order k h inside named = record {
  inside = All-push (λ i. i < length items) order k h.inside inside;
  after = λ j i e. elim (slice_get-push order k i j e) [
    | inl w ↦ subst (λ s. NamesOnly (Contains s) (inter_at items i)) (sym (take-append-le j order (k ∷ []) (omega arith))) (h.after j i w.1)
    | inr w ↦
        let same : take j (order ++ k ∷ []) ≡ order = ap (λ n. take n (order ++ k ∷ [])) w.0 ∙ take-append_seam order (k ∷ []) in
        subst (λ s. NamesOnly (Contains s) (inter_at items i)) (sym same) (subst (λ n. NamesOnly (Contains order) (inter_at items n)) w.1 named)
  ];
}

-- the top of the stack is an item
pub top_inside : (items : List Line) (states : List State) (stack rest order : List ℕ) {item : ℕ} → IsSearch items states stack order → stack ≡ rest ++ item ∷ [] → item < length items
top_inside items states stack rest order {item} h same =
    let size : length stack ≡ length rest + 1 = ap length same ∙ length-append rest (item ∷ []) in
    let top : get_or stack (length rest) item ≡ item = ap (λ s. get_or s (length rest) item) same ∙ get_or-append_seam rest item [] item in
    subst (λ i. i < length items) top (h.inside (length rest) item (omega arith))

-- an item all of whose names are done goes from the stack to the order
pub closes : (items : List Line) (states : List State) (stack rest order more : List ℕ) (item : ℕ) → IsSearch items states stack order → stack ≡ rest ++ item ∷ [] → more ≡ order ++ item ∷ [] → NamesOnly (IsDone states) (inter_at items item) → IsSearch items (set states item Done) rest more
closes items states stack rest order more item h same longer named =
    let size : length stack ≡ length rest + 1 = ap length same ∙ length-append rest (item ∷ []) in
    let inside : item < length items = top_inside items states stack rest order h same in
    let fits : item < length states = omega (arith, h.long) in
    let kept : (j d : ℕ) → j < length rest → get_or stack j d ≡ get_or rest j d = λ j d l. ap (λ s. get_or s j d) same ∙ get_or_append_left rest (item ∷ []) d j l in
    subst (λ s. IsSearch items (set states item Done) rest s) (sym longer)
    record {
      long = length-set states _ _ ∙ h.long;
      done = λ j e. elim (after_set states item j Done Done fits e) [
        | inl w ↦ subst (λ i. Contains (order ++ item ∷ []) i) (sym w.0) (Contains-push order item)
        | inr w ↦ Contains-append_left order (item ∷ []) j (h.done j w.1)
      ];
      open_ones = λ j e. elim (after_set states item j Done Open fits e) [
        | inl w ↦ let n : ⊥ = cc w.1 in absurd n
        | inr w ↦
            let on : Contains (rest ++ item ∷ []) j = subst (λ s. Contains s j) same (h.open_ones j w.1) in
            elim (Contains-push_cases rest item j on) [ inl c ↦ c | inr c ↦ absurd (w.0 (sym c)) ]
      ];
      inside = λ j d l. subst (λ i. i < length items) (kept j d l) (h.inside j d (omega arith));
      falls = λ rank ranked i j d before l.
          subst (λ a. rank (get_or rest j d) < rank a) (kept i d (omega arith))
          (subst (λ b. rank b < rank (get_or stack i d)) (kept j d l) (h.falls rank ranked i j d before (omega arith)));
      ordered = order-push items order item h.ordered inside (names_weaker (IsDone states) (Contains order) h.done (inter_at items item) named);
    }

-- a write of what isn't new keeps what was found
pub keeps_set : (old states : List State) (i : ℕ) (v : State) → v ≢ New → KeepsFound old states → i < length states → KeepsFound old (set states i v)
keeps_set old states i v ne keeps fits k was e = elim (after_set states i k v New fits e) [ inl w ↦ ne w.1 | inr w ↦ keeps k was w.1 ]

-- after such a write the item itself, and what was found, isn't new
pub found_set : (states : List State) (i k : ℕ) (v : State) → v ≢ New → i < length states → slice_get states k ≢ Some New → slice_get (set states i v) k ≢ Some New
found_set states i k v ne fits was e = elim (after_set states i k v New fits e) [ inl w ↦ ne w.1 | inr w ↦ was w.1 ]

abbrev pub is_new : State → Bool
is_new New = true
is_new Open = false
is_new Done = false

-- how many items are new
abbrev pub new_count : List State → ℕ
new_count states = count_by is_new states

pub new_count-open : (states : List State) (i : ℕ) → slice_get states i ≡ Some New → new_count (set states i Open) + 1 ≡ new_count states
new_count-open states i e =
    let fits : i < length states = slice_get_within states i New e in
    let was : get_or states i New ≡ New = get_or_from_slice_get states i New New e in
    let one : State → ℕ = λ s. cond (is_new s) 1 0 in
    let before : one (get_or states i New) ≡ 1 = ap one was in
    let sum : new_count (set states i Open) + one (get_or states i New) ≡ new_count states + 0 = sum_by-set one states i Open New fits in
    omega (arith, before, sum)

pub new_count-done : (states : List State) (i : ℕ) → i < length states → new_count (set states i Done) ≤ new_count states
new_count-done states i fits =
    let sum : new_count (set states i Done) + cond (is_new (get_or states i New)) 1 0 ≡ new_count states + 0 = sum_by-set (λ s. cond (is_new s) 1 0) states i Done New fits in
    omega arith

pub slice_get-replicate : {X : Type 0} (n k : ℕ) (x y : X) → slice_get (replicate n x) k ≡ Some y → x ≡ y
slice_get-replicate zero k x y e = cc
slice_get-replicate (suc n) zero x y e = cc
slice_get-replicate (suc n) (suc k) x y e = slice_get-replicate n k x y e

-- a search begins with nothing but new items
pub search-begin : (items : List Line) (states : List State) → states ≡ replicate (length items) New → length states ≡ length items → IsSearch items states [] []
search-begin items states same long =
    let only : (k : ℕ) (v : State) → slice_get states k ≡ Some v → New ≡ v = λ k v e. slice_get-replicate (length items) k New v (subst (λ s. slice_get s k ≡ Some v) same e) in
    record {
      long = long;
      done = λ k e. let n : ⊥ = cc (only k Done e) in absurd n;
      open_ones = λ k e. let n : ⊥ = cc (only k Open e) in absurd n;
      inside = All-nil (λ k. k < length items);
      falls = λ rank ranked i j d before l. absurd (omega arith);
      ordered = record { inside = All-nil (λ k. k < length items); after = λ j k e. let n : ⊥ = cc in absurd n };
    }

-- a search that found all intermediates has them all in order
pub found_all : (items : List Line) (states : List State) (order : List ℕ) → IsSearch items states [] order → ((k : ℕ) → k < length items → IsInter (item_at items k) → slice_get states k ≢ Some New) → IsWhole items order
found_all items states order h found = record {
  ordered = h.ordered;
  all = λ k l is. of_state k (get_or states k New) (found k l is) (slice_get-get_or states k New (omega (arith, h.long)));
}
  where
    of_state : (k : ℕ) (s : State) → slice_get states k ≢ Some New → slice_get states k ≡ Some s → Contains order k
    of_state k New ne e = absurd (ne e)
    of_state k Done ne e = h.done k e
    of_state k Open ne e = let on : Contains [] k = h.open_ones k e in absurd (let l : on.0 < 0 = on.1 in omega arith)
