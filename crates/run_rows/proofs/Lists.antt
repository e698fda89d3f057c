-- Lists.
use Rattle.std.proofs.Common.{◌≡◌, ◌+◌, ◌<◌, ◌≤◌, ℕ, zero, suc, List, [], ◌∷◌, ◌++◌, Bool, Option, Some, None, take, drop, map, refl, ap, sym, ◌∙◌, arith, append_assoc}
use Rattle.std.specs.Option.{MatchOption, IfNone}
use Rattle.std.specs.List.{flat_map, filter, range_with_len}
use Rattle.std.proofs.lemmas.List.{append-nil, drop-drop, map-append}
use Rattle.std.proofs.lemmas.List.Elements.{filter-append}

nothing : {A : Type 0} → (m : ℕ) → [] ≡ take {A = A} m []
nothing zero = refl
nothing (suc m) = refl

pub take_add : {A : Type 0} → (n m : ℕ) (xs : List A) → take (n + m) xs ≡ take n xs ++ take m (drop n xs)
take_add zero m xs = let e : 0 + m ≡ m = omega arith in rw e refl
take_add (suc n) m [] = let e : suc n + m ≡ suc (n + m) = omega arith in rw e (nothing m)
take_add (suc n) m (x ∷ xs) = let e : suc n + m ≡ suc (n + m) = omega arith in rw e (ap (λ zs. x ∷ zs) (take_add n m xs))

-- one item more was passed over, or there was none
pub passed : {A : Type 0} → (all old new : List A) (i : ℕ) (r : Option A) → old ≡ drop i all → MatchOption r (old ≡ []) (λ x. old ≡ x ∷ new) → IfNone r (new ≡ []) → new ≡ drop (i + 1) all
passed all old new i None e h k = k ∙ ap (drop 1) (sym h ∙ e) ∙ drop-drop 1 i all
passed all old new i (Some x) e h k = ap (drop 1) (sym h ∙ e) ∙ drop-drop 1 i all

taken_one : {A : Type 0} → (all old new : List A) (i : ℕ) (x : A) → old ≡ drop i all → old ≡ x ∷ new → take (i + 1) all ≡ take i all ++ x ∷ []
taken_one all old new i x e h = take_add i 1 all ∙ ap (λ zs. take i all ++ take 1 zs) (sym e ∙ h)

taken_none : {A : Type 0} → (all old : List A) (i : ℕ) → old ≡ drop i all → old ≡ [] → take (i + 1) all ≡ take i all
taken_none all old i e h = take_add i 1 all ∙ ap (λ zs. take i all ++ take 1 zs) (sym e ∙ h) ∙ append-nil (take i all)

-- what is made of one item more, or there was none
pub put : {A B : Type 0} → (f : A → B) (all old new : List A) (kept found more : List B) (i : ℕ) (x : A) (y : B) → old ≡ drop i all → old ≡ x ∷ new → found ≡ kept ++ map f (take i all) → y ≡ f x → more ≡ found ++ y ∷ []
    → more ≡ kept ++ map f (take (i + 1) all)
put f all old new kept found more i x y e h k is m =
    let one : map f (take (i + 1) all) ≡ map f (take i all) ++ f x ∷ [] = ap (map f) (taken_one all old new i x e h) ∙ map-append f (take i all) (x ∷ []) in
    m ∙ ap (λ zs. zs ++ y ∷ []) k ∙ ap (λ z. (kept ++ map f (take i all)) ++ z ∷ []) is ∙ append_assoc kept (map f (take i all)) (f x ∷ []) ∙ ap (λ zs. kept ++ zs) (sym one)

pub stayed : {A B : Type 0} → (f : A → B) (all old : List A) (kept found more : List B) (i : ℕ) → old ≡ drop i all → old ≡ [] → found ≡ kept ++ map f (take i all) → more ≡ found → more ≡ kept ++ map f (take (i + 1) all)
stayed f all old kept found more i e h k m = m ∙ k ∙ ap (λ zs. kept ++ map f zs) (sym (taken_none all old i e h))

pub range_add : {A : Type 0} (f : ℕ → A) (a n m : ℕ) → map f (range_with_len a (n + m)) ≡ map f (range_with_len a n) ++ map f (range_with_len (a + n) m)
range_add f a zero m = let e : 0 + m ≡ m = omega arith in let z : a + 0 ≡ a = omega arith in rw (e, z) refl
range_add f a (suc n) m =
    let e : suc n + m ≡ suc (n + m) = omega arith in
    let z : a + suc n ≡ a + 1 + n = omega arith in
    rw (e, z) (ap (λ zs. f a ∷ zs) (range_add f (a + 1) n m))

pub map_map : {A B C : Type 0} (g : B → C) (f : A → B) (xs : List A) → map g (map f xs) ≡ map (λ x. g (f x)) xs
map_map g f [] = refl
map_map g f (x ∷ xs) = ap (λ zs. g (f x) ∷ zs) (map_map g f xs)

pub map_same : {A B : Type 0} (f g : A → B) → ((x : A) → f x ≡ g x) → (xs : List A) → map f xs ≡ map g xs
map_same f g h [] = refl
map_same f g h (x ∷ xs) = rw (h x, map_same f g h xs) refl

pub joined_map : {A B : Type 0} (f : A → List B) (xs : List A) → flat_map (λ zs. zs) (map f xs) ≡ flat_map f xs
joined_map f [] = refl
joined_map f (x ∷ xs) = ap (λ zs. f x ++ zs) (joined_map f xs)

pub filtered : {K X : Type 0} (p : X → Bool) (g : K → List X) (ks : List K) → flat_map (λ k. filter p (g k)) ks ≡ filter p (flat_map g ks)
filtered p g [] = refl
filtered p g (k ∷ ks) = ap (λ zs. filter p (g k) ++ zs) (filtered p g ks) ∙ sym (filter-append p (g k) (flat_map g ks))
