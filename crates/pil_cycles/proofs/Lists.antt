-- Elements of lists after a write or a push.
use Rattle.std.proofs.Common.{ℕ, zero, suc, ◌≡◌, ◌≢◌, ◌<◌, ◌+◌, ◌⊎◌, inl, inr, List, [], ◌∷◌, ◌++◌, length, get_or, set, take, drop, refl, sym, ◌∙◌, ap, subst, arith, slice_get, Some, Contains, length-append, replicate}
use Rattle.std.proofs.lemmas.Bool.{cases_eq}
use Rattle.std.proofs.lemmas.Option.{slice_get_within, slice_get-get_or, get_or_from_slice_get}
use Rattle.std.proofs.lemmas.List.{get_or_append_left, drop_all, take_all, append-nil}
use Rattle.std.proofs.Math.Seq.{get_or-append_seam}
use Rattle.std.specs.List.{AllPairs, All}

pub slice_get-set_same : {X : Type 0} (xs : List X) (i : ℕ) (v : X) → i < length xs → slice_get (set xs i v) i ≡ Some v
slice_get-set_same [] i v h = absurd (omega arith)
slice_get-set_same (x ∷ xs) zero v h = refl
slice_get-set_same (x ∷ xs) (suc i) v h = slice_get-set_same xs i v (omega arith)

pub slice_get-set_other : {X : Type 0} (xs : List X) (i k : ℕ) (v : X) → k ≢ i → slice_get (set xs i v) k ≡ slice_get xs k
slice_get-set_other [] i k v h = refl
slice_get-set_other (x ∷ xs) zero zero v h = absurd (h refl)
slice_get-set_other (x ∷ xs) zero (suc k) v h = refl
slice_get-set_other (x ∷ xs) (suc i) zero v h = refl
slice_get-set_other (x ∷ xs) (suc i) (suc k) v h = slice_get-set_other xs i k v (λ e. h (ap suc e))

-- what stands at k after a write at i
pub after_set : {X : Type 0} (xs : List X) (i k : ℕ) (v w : X) → i < length xs → slice_get (set xs i v) k ≡ Some w → ((k ≡ i) × (v ≡ w)) ⊎ ((k ≢ i) × (slice_get xs k ≡ Some w))
after_set xs i k v w h e =
    elim (cases_eq k i) [
      | inl p ↦
          let q : slice_get (set xs i v) k ≡ Some v = subst (λ j. slice_get (set xs i v) j ≡ Some v) (sym p) (slice_get-set_same xs i v h) in
          let s : v ≡ w = cc in
          inl (p, s)
      | inr p ↦ inr (p, sym (slice_get-set_other xs i k v p) ∙ e)
    ]

-- an element of a list with one more at its end
pub slice_get-push : {X : Type 0} (xs : List X) (y x : X) (j : ℕ) → slice_get (xs ++ y ∷ []) j ≡ Some x → ((j < length xs) × (slice_get xs j ≡ Some x)) ⊎ ((j ≡ length xs) × (y ≡ x))
slice_get-push [] y x zero e = let s : y ≡ x = cc in inr (refl, s)
slice_get-push [] y x (suc j) e = let n : ⊥ = cc in absurd n
slice_get-push (z ∷ xs) y x zero e = inl (omega arith, e)
slice_get-push (z ∷ xs) y x (suc j) e = elim (slice_get-push xs y x j e) [ inl (l, p) ↦ inl (omega arith, p) | inr (l, p) ↦ inr (ap suc l, p) ]

pub slice_get-replicate : {X : Type 0} (n k : ℕ) (x y : X) → slice_get (replicate n x) k ≡ Some y → x ≡ y
slice_get-replicate zero k x y e = cc
slice_get-replicate (suc n) zero x y e = cc
slice_get-replicate (suc n) (suc k) x y e = slice_get-replicate n k x y e

-- what a list contains stands somewhere
pub standing : (xs : List ℕ) (x : ℕ) → Contains xs x → (i : ℕ) × (slice_get xs i ≡ Some x)
standing xs x h = (h.0, slice_get-get_or xs h.0 x h.1 ∙ ap Some h.2)

pub contains_standing : (xs : List ℕ) (i x : ℕ) → slice_get xs i ≡ Some x → Contains xs x
contains_standing xs i x e = (i, slice_get_within xs i x e, get_or_from_slice_get xs i x x e)

pub pairs_front : (R : ℕ → ℕ → Type 0) (xs : List ℕ) (y : ℕ) → AllPairs R (xs ++ y ∷ []) → AllPairs R xs
pairs_front R xs y h i j d before l =
    let size : length (xs ++ y ∷ []) ≡ length xs + 1 = length-append xs (y ∷ []) in
    subst (λ a. R a (get_or xs j d)) (get_or_append_left xs (y ∷ []) d i (omega arith))
    (subst (λ b. R (get_or (xs ++ y ∷ []) i d) b) (get_or_append_left xs (y ∷ []) d j l) (h i j d before (omega arith)))

pub pairs_last : (R : ℕ → ℕ → Type 0) (xs : List ℕ) (y j d : ℕ) → AllPairs R (xs ++ y ∷ []) → j < length xs → R (get_or xs j d) y
pairs_last R xs y j d h l =
    let size : length (xs ++ y ∷ []) ≡ length xs + 1 = length-append xs (y ∷ []) in
    subst (λ a. R a y) (get_or_append_left xs (y ∷ []) d j l)
    (subst (λ b. R (get_or (xs ++ y ∷ []) j d) b) (get_or-append_seam xs y [] d) (h j (length xs) d l (omega arith)))

pub pairs_contained : (R : ℕ → ℕ → Type 0) (xs : List ℕ) (y x : ℕ) → AllPairs R (xs ++ y ∷ []) → Contains xs x → R x y
pairs_contained R xs y x h on = subst (λ a. R a y) on.2 (pairs_last R xs y on.0 x h on.1)

pub all_front : (P : ℕ → Type 0) (xs : List ℕ) (y : ℕ) → All P (xs ++ y ∷ []) → All P xs
all_front P xs y h j d l =
    let size : length (xs ++ y ∷ []) ≡ length xs + 1 = length-append xs (y ∷ []) in
    subst P (get_or_append_left xs (y ∷ []) d j l) (h j d (omega arith))

pub all_last : (P : ℕ → Type 0) (xs : List ℕ) (y : ℕ) → All P (xs ++ y ∷ []) → P y
all_last P xs y h =
    let size : length (xs ++ y ∷ []) ≡ length xs + 1 = length-append xs (y ∷ []) in
    subst P (get_or-append_seam xs y [] y) (h (length xs) y (omega arith))

pub nothing_in : (x : ℕ) → Contains [] x → ⊥
nothing_in x h = let l : h.0 < 0 = h.1 in omega arith

-- an element that is there doesn't depend on the default
pub get_or-default : {X : Type 0} (xs : List X) (i : ℕ) (d d' : X) → i < length xs → get_or xs i d ≡ get_or xs i d'
get_or-default [] i d d' l = absurd (omega arith)
get_or-default (y ∷ ys) zero d d' l = refl
get_or-default (y ∷ ys) (suc i) d d' l = get_or-default ys i d d' (omega arith)

-- what a `Vec` holds after a write of all its elements
pub written_back : {X : Type 0} (n : ℕ) (old now : List X) → n ≡ length old → length now ≡ length old → take n (now ++ drop (length now) old) ≡ now
written_back n old now long same =
    ap (λ s. take n (now ++ s)) (drop_all (length now) old (omega arith)) ∙ ap (take n) (append-nil now) ∙ take_all n now (omega arith)
