-- The least place of what depends on itself, piece by piece.
use Rattle.std.proofs.Common.{ℕ, zero, suc, ◌≡◌, ◌<◌, ◌≤◌, ◌+◌, ◌⊎◌, inl, inr, List, [], ◌∷◌, length, map, Bool, true, false, Option, Some, None, min, slice_get, unwrap_or, option_map, if◌then◌else◌, arith, rules, refl, sym, ap, ◌∙◌, subst}
use Rattle.std.proofs.lemmas.Bool.{cases_lt}
use Rattle.std.proofs.Math.ListN.{get_or}
use Rattle.pil_ast.specs.Term.{space_at}
use Rattle.pil_cycles.specs.Cycles.{TellCycles}
use Rattle.pil_names.specs.Outline.{Outline, Draft, home_at, draft_at}
use Rattle.pil_names.specs.Least.{lesser}
use Rattle.pil_names.specs.Shown.{draft}
use Rattle.pil_names.specs.declared.outline.Draft as D
use Rattle.pil_meaning.specs.Meaning.{meaning}
use Rattle.pil_text.specs.Refusal.{IsCyclicIn, place_of}
use Rattle.pil_text.specs.Cyclic.{IsLeastOf, IsFlagged, IsCyclicBelow}

-- the least of two kinds of places
pub least_join : (P Q : ℕ → Type 0) (a b : Option ℕ) → IsLeastOf P a → IsLeastOf Q b → IsLeastOf (λ at. P at ⊎ Q at) (lesser a b)
least_join P Q None None p q = λ at h. elim h as (λ u. ⊥) [ inl x ↦ p at x | inr y ↦ q at y ]
least_join P Q None (Some n) p q = (inr q.0, λ at h. elim h as (λ u. n ≤ at) [ inl x ↦ absurd (p at x) | inr y ↦ q.1 at y ])
least_join P Q (Some m) None p q = (inl p.0, λ at h. elim h as (λ u. m ≤ at) [ inl x ↦ p.1 at x | inr y ↦ absurd (q at y) ])
least_join P Q (Some m) (Some n) p q = by (cases_lt m n)
  where
    by : (m < n) ⊎ (n ≤ m) → IsLeastOf (λ at. P at ⊎ Q at) (Some (min m n))
    by (inl l) = let same : min m n ≡ m = omega (arith, l) in rw same (inl p.0, λ at h. elim h as (λ u. m ≤ at) [ inl x ↦ p.1 at x | inr y ↦ let k : n ≤ at = q.1 at y in omega (arith, k, l) ])
    by (inr l) = let same : min m n ≡ n = omega (arith, l) in rw same (inr q.0, λ at h. elim h as (λ u. n ≤ at) [ inl x ↦ let k : m ≤ at = p.1 at x in omega (arith, k, l) | inr y ↦ q.1 at y ])

pub least_same : (P Q : ℕ → Type 0) (a : Option ℕ) → ((at : ℕ) → P at → Q at) → ((at : ℕ) → Q at → P at) → IsLeastOf P a → IsLeastOf Q a
least_same P Q None to from p = λ at q. p at (from at q)
least_same P Q (Some m) to from p = (to m p.0, λ at q. p.1 at (from at q))

-- the place of one item, if its flag is set
record IsFlaggedAt (ds : List Draft) (flags : List Bool) (n at : ℕ) : Type 0 where
  set : slice_get flags n ≡ Some true
  place : at ≡ place_of (draft_at ds n)

one_flag : (ds : List Draft) (flags : List Bool) (n : ℕ) (flag : Bool) → slice_get flags n ≡ Some flag → IsLeastOf (IsFlaggedAt ds flags n) (if flag then Some (place_of (draft_at ds n)) else None)
one_flag ds flags n true is = (record { set = is; place = refl }, λ at f. omega (arith, f.place))
one_flag ds flags n false is = λ at f. let no : Some false ≡ Some true = sym is ∙ f.set in absurd (grind rules)

split_flag : (ds : List Draft) (flags : List Bool) (n at : ℕ) → IsFlagged ds flags (n + 1) at → IsFlagged ds flags n at ⊎ IsFlaggedAt ds flags n at
split_flag ds flags n at f = by (cases_lt f.item n)
  where
    by : (f.item < n) ⊎ (n ≤ f.item) → IsFlagged ds flags n at ⊎ IsFlaggedAt ds flags n at
    by (inl l) = inl (record { item = f.item; below = l; set = f.set; place = f.place })
    by (inr l) = let e : f.item ≡ n = omega (arith, l, f.below) in inr (record { set = subst (λ k. slice_get flags k ≡ Some true) e f.set; place = subst (λ k. at ≡ place_of (draft_at ds k)) e f.place })

join_flag : (ds : List Draft) (flags : List Bool) (n at : ℕ) → IsFlagged ds flags n at ⊎ IsFlaggedAt ds flags n at → IsFlagged ds flags (n + 1) at
join_flag ds flags n at (inl f) = record { item = f.item; below = let l = f.below in omega (arith, l); set = f.set; place = f.place }
join_flag ds flags n at (inr f) = record { item = n; below = omega arith; set = f.set; place = f.place }

-- one more item
pub one_more : (ds : List Draft) (flags : List Bool) (n : ℕ) (flag : Bool) (found : Option ℕ) → slice_get flags n ≡ Some flag → IsLeastOf (IsFlagged ds flags n) found → IsLeastOf (IsFlagged ds flags (n + 1)) (lesser found (if flag then Some (place_of (draft_at ds n)) else None))
one_more ds flags n flag found is p = least_same (λ at. IsFlagged ds flags n at ⊎ IsFlaggedAt ds flags n at) (IsFlagged ds flags (n + 1)) (lesser found (if flag then Some (place_of (draft_at ds n)) else None)) (join_flag ds flags n) (split_flag ds flags n) (least_join (IsFlagged ds flags n) (IsFlaggedAt ds flags n) found (if flag then Some (place_of (draft_at ds n)) else None) p (one_flag ds flags n flag is))

-- an element that an index gives
pub element : {A : Type 0} (xs : List A) (k : ℕ) (x : A) → k < length xs → x ≡ get_or xs k x → slice_get xs k ≡ Some x
element [] k x l e = absurd (omega (arith, l))
element (y ∷ ys) zero x l e = ap Some (sym e)
element (y ∷ ys) (suc k) x l e = element ys k x (omega (arith, l)) e

pub any_default : {A : Type 0} (xs : List A) (k : ℕ) (d e : A) → k < length xs → get_or xs k d ≡ get_or xs k e
any_default [] k d e l = absurd (omega (arith, l))
any_default (y ∷ ys) zero d e l = refl
any_default (y ∷ ys) (suc k) d e l = any_default ys k d e (omega (arith, l))

map_get : {A B : Type 0} (f : A → B) (xs : List A) (k : ℕ) (x : A) → slice_get xs k ≡ Some x → slice_get (map f xs) k ≡ Some (f x)
map_get f [] k x e = absurd (grind rules)
map_get f (y ∷ ys) zero x e = ap (option_map f) e
map_get f (y ∷ ys) (suc k) x e = map_get f ys k x e

draft_here : (ds : List Draft) (k : ℕ) (d : Draft) → slice_get ds k ≡ Some d → draft_at ds k ≡ d
draft_here [] k d e = absurd (grind rules)
draft_here (x ∷ xs) zero d e = unwrap_some x d e
  where
    unwrap_some : (a b : Draft) → Some a ≡ Some b → a ≡ b
    unwrap_some a b e = ap (λ o. unwrap_or o a) e
draft_here (x ∷ xs) (suc k) d e = draft_here xs k d e

-- one more item, as the loop has it
pub loop_more : (items : List D.Draft) (flags : List Bool) (n : ℕ) (flag : Bool) (item : D.Draft) (found now here : Option ℕ) → n < length items → length flags ≡ length items → item ≡ get_or items n item → flag ≡ get_or flags n flag → here ≡ (if flag then Some (place_of (draft item)) else None) → now ≡ lesser found here → IsLeastOf (IsFlagged (map draft items) flags n) found → IsLeastOf (IsFlagged (map draft items) flags (n + 1)) now
loop_more items flags n flag item found now here l long at_item at_flag h e p =
    let d : draft_at (map draft items) n ≡ draft item = draft_here (map draft items) n (draft item) (map_get draft items n item (element items n item l at_item)) in
    let is : here ≡ (if flag then Some (place_of (draft_at (map draft items) n)) else None) = h ∙ ap (λ x. if flag then Some (place_of x) else None) (sym d) in
    subst (IsLeastOf (IsFlagged (map draft items) flags (n + 1))) (sym (e ∙ ap (lesser found) is)) (one_more (map draft items) flags n flag found (element flags n flag (omega (arith, l, long)) at_flag) p)

get_below : (flags : List Bool) (k : ℕ) → slice_get flags k ≡ Some true → k < length flags
get_below [] k e = absurd (grind rules)
get_below (b ∷ bs) zero e = omega arith
get_below (b ∷ bs) (suc k) e = let l = get_below bs k e in omega (arith, l)

-- the flags tell the cycles of a namespace
pub home_told : (o : Outline) (s n : ℕ) (flags : List Bool) (found : Option ℕ) → TellCycles (space_at (meaning o) s).items flags → n ≡ length flags → IsLeastOf (IsFlagged (home_at o.homes s).items flags n) found → IsLeastOf (IsCyclicIn o s) found
home_told o s n flags found tells long p = least_same (IsFlagged (home_at o.homes s).items flags n) (IsCyclicIn o s) found
    (λ at f. record { item = f.item; cycle = (tells.each f.item).0 f.set; place = f.place })
    (λ at d. let set = (tells.each d.item).1 d.cycle in let l = get_below flags d.item set in record { item = d.item; below = omega (arith, l, long); set = set; place = d.place }) p

-- one more namespace
pub home_more : (o : Outline) (n : ℕ) (found here : Option ℕ) → IsLeastOf (IsCyclicBelow o n) found → IsLeastOf (IsCyclicIn o n) here → IsLeastOf (IsCyclicBelow o (n + 1)) (lesser found here)
home_more o n found here p q = least_same (λ at. IsCyclicBelow o n at ⊎ IsCyclicIn o n at) (IsCyclicBelow o (n + 1)) (lesser found here) join split (least_join (IsCyclicBelow o n) (IsCyclicIn o n) found here p q)
  where
    join : (at : ℕ) → IsCyclicBelow o n at ⊎ IsCyclicIn o n at → IsCyclicBelow o (n + 1) at
    join at (inl f) = record { space = f.space; below = let l = f.below in omega (arith, l); inside = f.inside }
    join at (inr f) = record { space = n; below = omega arith; inside = f }

    split : (at : ℕ) → IsCyclicBelow o (n + 1) at → IsCyclicBelow o n at ⊎ IsCyclicIn o n at
    split at f = by (cases_lt f.space n)
      where
        by : (f.space < n) ⊎ (n ≤ f.space) → IsCyclicBelow o n at ⊎ IsCyclicIn o n at
        by (inl l) = inl (record { space = f.space; below = l; inside = f.inside })
        by (inr l) = let e : f.space ≡ n = omega (arith, l, f.below) in inr (subst (λ s. IsCyclicIn o s at) e f.inside)
