-- Elements at their places.
use Rattle.std.proofs.Common.{ℕ, zero, suc, ◌+◌, ◌<◌, ◌≡◌, ◌≢◌, ◌⊎◌, inl, inr, List, [], ◌∷◌, ◌++◌, Some, length, get_or, set, take, map, slice_get, refl, sym, ◌∙◌, ap, subst, arith, All}
use Rattle.std.specs.declared.result.Result.{Result}
use Rattle.std.specs.declared.result.Result.TheVariants.{Ok, Err}
use Rattle.std.specs.Result.{IfOk, OnOk}
use Rattle.std.proofs.lemmas.Option.{slice_get-get_or, slice_get_within}
use Rattle.std.proofs.lemmas.List.{take_more}

pub get-set_same : {X : Type 0} (xs : List X) (i : ℕ) (v : X) → i < length xs → slice_get (set xs i v) i ≡ Some v
get-set_same [] i v l = absurd (omega arith)
get-set_same (x ∷ xs) zero v l = refl
get-set_same (x ∷ xs) (suc i) v l = get-set_same xs i v (omega arith)

pub get-set_other : {X : Type 0} (xs : List X) (i k : ℕ) (v : X) → k ≢ i → slice_get (set xs i v) k ≡ slice_get xs k
get-set_other [] i k v n = refl
get-set_other (x ∷ xs) zero zero v n = absurd (n refl)
get-set_other (x ∷ xs) zero (suc k) v n = refl
get-set_other (x ∷ xs) (suc i) zero v n = refl
get-set_other (x ∷ xs) (suc i) (suc k) v n = get-set_other xs i k v (λ e. n (ap suc e))

pub some-same : {X : Type 0} (x y : X) → Some x ≡ Some y → x ≡ y
some-same x y e = cc

-- an element that is read is the one found there
pub read-found : {X : Type 0} (xs : List X) (i : ℕ) (x : X) → i < length xs → x ≡ get_or xs i x → slice_get xs i ≡ Some x
read-found xs i x l at = slice_get-get_or xs i x l ∙ ap Some (sym at)

pub found-all : {X : Type 0} (P : X → Type 0) (xs : List X) (i : ℕ) (x : X) → All P xs → slice_get xs i ≡ Some x → P x
found-all P xs i x all is =
    let l = slice_get_within xs i x is in
    subst P (some-same (get_or xs i x) x (sym (slice_get-get_or xs i x l) ∙ is)) (all i x l)

-- an element of a list with one more at its end
pub get-push : {X : Type 0} (xs : List X) (y x : X) (j : ℕ) → slice_get (xs ++ y ∷ []) j ≡ Some x → ((j < length xs) × (slice_get xs j ≡ Some x)) ⊎ ((j ≡ length xs) × (y ≡ x))
get-push [] y x zero e = let s : y ≡ x = cc in inr (refl, s)
get-push [] y x (suc j) e = let n : ⊥ = cc in absurd n
get-push (z ∷ xs) y x zero e = inl (omega arith, e)
get-push (z ∷ xs) y x (suc j) e = elim (get-push xs y x j e) [ inl (l, p) ↦ inl (omega arith, p) | inr (l, p) ↦ inr (ap suc l, p) ]

pub get-front : {X : Type 0} (xs ys : List X) (k : ℕ) (x : X) → slice_get xs k ≡ Some x → slice_get (xs ++ ys) k ≡ Some x
get-front [] ys k x e = let n : ⊥ = cc in absurd n
get-front (z ∷ xs) ys zero x e = e
get-front (z ∷ xs) ys (suc k) x e = get-front xs ys k x e

pub get-last : {X : Type 0} (xs : List X) (x : X) → slice_get (xs ++ x ∷ []) (length xs) ≡ Some x
get-last [] x = refl
get-last (z ∷ xs) x = get-last xs x

-- an element that a loop reads, as a caller of the list sees it
pub map-read : {X Y : Type 0} (f : X → Y) (xs : List X) (i : ℕ) (x : X) (d : Y) → i < length xs → x ≡ get_or xs i x → get_or (map f xs) i d ≡ f x
map-read f [] i x d l e = absurd (omega arith)
map-read f (z ∷ xs) zero x d l e = ap f (sym e)
map-read f (z ∷ xs) (suc i) x d l e = map-read f xs i x d (omega arith) e

pub map-long : {X Y : Type 0} (f : X → Y) (xs : List X) (i : ℕ) → i < length xs → i < length (map f xs)
map-long f [] i l = absurd (omega arith)
map-long f (z ∷ xs) zero l = omega arith
map-long f (z ∷ xs) (suc i) l = let r = map-long f xs i (omega arith) in omega arith

pub map-all : {X Y : Type 0} (f : X → Y) (P : Y → Type 0) (xs : List X) (i : ℕ) (x : X) → i < length xs → x ≡ get_or xs i x → All P (map f xs) → P (f x)
map-all f P xs i x l e all = subst P (map-read f xs i x (f x) l e) (all i (f x) (map-long f xs i l))

pub map-take : {X Y : Type 0} (f : X → Y) (xs : List X) (i : ℕ) (x : X) → i < length xs → x ≡ get_or xs i x → take (i + 1) (map f xs) ≡ take i (map f xs) ++ f x ∷ []
map-take f xs i x l e = take_more (map f xs) i (f x) (map-long f xs i l) ∙ ap (λ y. take i (map f xs) ++ y ∷ []) (map-read f xs i x (f x) l e)

-- what two facts of an Ok say together
pub ok-both : {X E : Type 0} (r : Result X E) (A B : X → Type 0) (P : Type 0) → ((x : X) → A x → B x → P) → IfOk r A → IfOk r B → OnOk r P
ok-both (Ok x) A B P f a b = f x a b
ok-both (Err e) A B P f a b = tt

pub ok-always : {X E : Type 0} (r : Result X E) (P : Type 0) → P → OnOk r P
ok-always (Ok x) P h = h
ok-always (Err e) P h = tt

-- what holds of each element and of one more
pub more-found : {X : Type 0} (P : ℕ → X → Type 0) (old new : List X) (x : X) → new ≡ old ++ x ∷ [] → ((k : ℕ) (y : X) → slice_get old k ≡ Some y → P k y) → P (length old) x → (k : ℕ) (y : X) → slice_get new k ≡ Some y → P k y
more-found P old new x e each one k y is = elim (get-push old x y k (ap (λ xs. slice_get xs k) (sym e) ∙ is)) [
  | inl w ↦ each k y w.1
  | inr w ↦ subst (P k) w.1 (subst (λ j. P j x) (sym w.0) one)
]

pub map-found : {X Y : Type 0} (f : X → Y) (xs : List X) (i : ℕ) (x : X) → i < length xs → x ≡ get_or xs i x → slice_get (map f xs) i ≡ Some (f x)
map-found f [] i x l e = absurd (omega arith)
map-found f (z ∷ xs) zero x l e = ap (λ y. Some (f y)) (sym e)
map-found f (z ∷ xs) (suc i) x l e = map-found f xs i x (omega arith) e

-- lists that are the same at each place
pub same-lists : {X : Type 0} (xs ys : List X) → length xs ≡ length ys → ((k : ℕ) → k < length xs → slice_get xs k ≡ slice_get ys k) → xs ≡ ys
same-lists [] [] l h = refl
same-lists [] (y ∷ ys) l h = absurd (omega arith)
same-lists (x ∷ xs) [] l h = absurd (omega arith)
same-lists (x ∷ xs) (y ∷ ys) l h =
    ap (λ z. z ∷ xs) (some-same x y (h 0 (omega arith))) ∙ ap (λ zs. y ∷ zs) (same-lists xs ys (omega arith) (λ k m. h (suc k) (omega arith)))
