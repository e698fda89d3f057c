-- The least of what a loop has passed.
use Rattle.std.proofs.Common.{◌≡◌, ◌+◌, ◌<◌, ◌≤◌, ℕ, zero, suc, List, [], ◌∷◌, ◌++◌, take, length, map, get_or, Option, refl, sym, ap, subst, ◌∙◌, arith, add-one}
use Rattle.std.specs.List.{flat_map}
use Rattle.std.proofs.lemmas.List.{take_all}
use Rattle.std.proofs.lemmas.Grind.{flat_map-append}
use Rattle.std.proofs.lemmas.List.Folds.{flat_map-map}
use Rattle.pil_names.specs.Wrongs.{each_from}
use Rattle.pil_names.specs.Least.{lesser, least}
use Rattle.pil_meaning.proofs.Leasts.{lesser_assoc, lesser_none, least-append}

pub least_one : (xs : List ℕ) → least (xs ++ []) ≡ least xs
least_one xs = least-append xs [] ∙ lesser_none (least xs)

pub least_flat_append : {X : Type 0} (f : X → List ℕ) (xs ys : List X) → least (flat_map f (xs ++ ys)) ≡ lesser (least (flat_map f xs)) (least (flat_map f ys))
least_flat_append f xs ys = ap least (flat_map-append f xs ys) ∙ least-append (flat_map f xs) (flat_map f ys)

pub ruleset joined = (least-append, least_flat_append, least_one)

pub least_both : (all xs ys : List ℕ) (a b r : Option ℕ) → all ≡ xs ++ ys → a ≡ least xs → b ≡ least ys → r ≡ lesser a b → r ≡ least all
least_both all xs ys a b r e l m n =
    n ∙ ap (λ o. lesser o b) l ∙ ap (lesser (least xs)) m ∙ sym (least-append xs ys) ∙ ap least (sym e)

pub least_joined : {X : Type 0} (f : X → List ℕ) (all xs ys : List X) (a b r : Option ℕ) → all ≡ xs ++ ys → a ≡ least (flat_map f xs) → b ≡ least (flat_map f ys) → r ≡ lesser a b → r ≡ least (flat_map f all)
least_joined f all xs ys a b r e l m n =
    n ∙ ap (λ o. lesser o b) l ∙ ap (lesser (least (flat_map f xs))) m ∙ sym (least_flat_append f xs ys) ∙ ap (λ s. least (flat_map f s)) (sym e)

-- one more element that a loop passes
flat-suc : {X : Type 0} (f : X → List ℕ) (xs : List X) (i : ℕ) (d : X) → i < length xs → least (flat_map f (take (suc i) xs)) ≡ lesser (least (flat_map f (take i xs))) (least (f (get_or xs i d)))
flat-suc f [] i d l = absurd (omega arith)
flat-suc f (x ∷ xs) zero d l = least_one (f x)
flat-suc f (x ∷ xs) (suc i) d l =
    least-append (f x) (flat_map f (take (suc i) xs))
    ∙ ap (lesser (least (f x))) (flat-suc f xs i d (omega arith))
    ∙ sym (lesser_assoc (least (f x)) (least (flat_map f (take i xs))) (least (f (get_or xs i d))))
    ∙ sym (ap (λ a. lesser a (least (f (get_or xs i d)))) (least-append (f x) (flat_map f (take i xs))))

each-suc : {X : Type 0} (f : ℕ → X → List ℕ) (n : ℕ) (xs : List X) (i m : ℕ) (d : X) → i < length xs → m ≡ n + i → least (each_from f n (take (suc i) xs)) ≡ lesser (least (each_from f n (take i xs))) (least (f m (get_or xs i d)))
each-suc f n [] i m d l e = absurd (omega arith)
each-suc f n (x ∷ xs) zero m d l e =
    let e' : m ≡ n = omega arith in
    least_one (f n x) ∙ ap (λ k. least (f k x)) (sym e')
each-suc f n (x ∷ xs) (suc i) m d l e =
    least-append (f n x) (each_from f (n + 1) (take (suc i) xs))
    ∙ ap (lesser (least (f n x))) (each-suc f (n + 1) xs i m d (omega arith) (omega arith))
    ∙ sym (lesser_assoc (least (f n x)) (least (each_from f (n + 1) (take i xs))) (least (f m (get_or xs i d))))
    ∙ sym (ap (λ a. lesser a (least (f m (get_or xs i d)))) (least-append (f n x) (each_from f (n + 1) (take i xs))))

-- a loop over the elements: what it has found after one more, and at its end
pub flat_step : {X : Type 0} (f : X → List ℕ) (xs all : List X) (i : ℕ) (x : X) (before here after : Option ℕ) → all ≡ xs → i < length all → x ≡ get_or all i x → before ≡ least (flat_map f (take i xs)) → here ≡ least (f x) → after ≡ lesser before here → after ≡ least (flat_map f (take (i + 1) xs))
flat_step f xs all i x before here after same l at b h a =
    let l' : i < length xs = subst (λ s. i < length s) same l in
    let at' : x ≡ get_or xs i x = at ∙ ap (λ s. get_or s i x) same in
    a ∙ ap (λ o. lesser o here) b ∙ ap (lesser (least (flat_map f (take i xs)))) (h ∙ ap (λ y. least (f y)) at')
    ∙ sym (flat-suc f xs i x l') ∙ ap (λ n. least (flat_map f (take n xs))) (sym (add-one i))

pub flat_end : {X Y : Type 0} (f : Y → List ℕ) (v : X → Y) (xs all : List X) (i : ℕ) (found : Option ℕ) → all ≡ xs → length all ≤ i → found ≡ least (flat_map (λ x. f (v x)) (take i xs)) → found ≡ least (flat_map f (map v xs))
flat_end f v xs all i found same l e =
    let l' : length xs ≤ i = subst (λ s. length s ≤ i) same l in
    e ∙ ap (λ s. least (flat_map (λ x. f (v x)) s)) (take_all i xs l') ∙ ap least (sym (flat_map-map f v xs))

-- the same where each element's number counts
each-map : {X Y : Type 0} (f : ℕ → Y → List ℕ) (v : X → Y) (n : ℕ) (xs : List X) → each_from f n (map v xs) ≡ each_from (λ m x. f m (v x)) n xs
each-map f v n [] = refl
each-map f v n (x ∷ xs) = ap (λ s. f n (v x) ++ s) (each-map f v (n + 1) xs)

pub each_step : {X : Type 0} (f : ℕ → X → List ℕ) (xs all : List X) (i : ℕ) (x : X) (before here after : Option ℕ) → all ≡ xs → i < length all → x ≡ get_or all i x → before ≡ least (each_from f 0 (take i xs)) → here ≡ least (f i x) → after ≡ lesser before here → after ≡ least (each_from f 0 (take (i + 1) xs))
each_step f xs all i x before here after same l at b h a =
    let l' : i < length xs = subst (λ s. i < length s) same l in
    let at' : x ≡ get_or xs i x = at ∙ ap (λ s. get_or s i x) same in
    a ∙ ap (λ o. lesser o here) b ∙ ap (lesser (least (each_from f 0 (take i xs)))) (h ∙ ap (λ y. least (f i y)) at')
    ∙ sym (each-suc f 0 xs i i x l' (omega arith)) ∙ ap (λ n. least (each_from f 0 (take n xs))) (sym (add-one i))

pub each_end : {X Y : Type 0} (f : ℕ → Y → List ℕ) (v : X → Y) (xs all : List X) (i : ℕ) (found : Option ℕ) → all ≡ xs → length all ≤ i → found ≡ least (each_from (λ n x. f n (v x)) 0 (take i xs)) → found ≡ least (each_from f 0 (map v xs))
each_end f v xs all i found same l e =
    let l' : length xs ≤ i = subst (λ s. length s ≤ i) same l in
    e ∙ ap (λ s. least (each_from (λ n x. f n (v x)) 0 s)) (take_all i xs l') ∙ ap least (sym (each-map f v 0 xs))

-- a list of lists
pub flat_flat : {X Y : Type 0} (f : Y → List ℕ) (g : X → List Y) (xs : List X) → flat_map f (flat_map g xs) ≡ flat_map (λ x. flat_map f (g x)) xs
flat_flat f g [] = refl
flat_flat f g (x ∷ xs) = flat_map-append f (g x) (flat_map g xs) ∙ ap (λ s. flat_map f (g x) ++ s) (flat_flat f g xs)
