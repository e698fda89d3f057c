-- How often a tuple stands in a list, and the weight of a list of tuples.
use Rattle.std.proofs.Common.{map, length, get_or, take, ℕ, zero, suc, ◌+◌, ◌<◌, ◌≤◌, ◌≡◌, ◌≢◌, inl, inr, Bool, true, false, cond, List, [], ◌∷◌, ◌++◌, flat_map, refl, sym, ap, subst, ◌∙◌, arith, All}
use Rattle.std.specs.List.{sum_by, Contains}
use Rattle.std.specs.List.Sorted.{IsPermutation}
use Rattle.std.specs.Str.{bytes_eq}
use Rattle.std.proofs.lemmas.List.Elements.{All-head, All-tail}
use Rattle.std.proofs.lemmas.List.Sums.{sum_by-cons, sum_by-append, count_by-le-length, count_by_more_yes, count_by_more_no}
use Rattle.std.proofs.lemmas.List.Sorted.{sum_by-IsPermutation}
use Rattle.std.proofs.lemmas.Slice.Eq.{bytes_eq-Decides}
use Rattle.std.proofs.lemmas.Bool.{cases_Bool, cases_eq}
use Rattle.std.proofs.lemmas.List.Concat.{flat_map_single}
use Rattle.pil_ast.specs.Holds.{times, AsOften}

abbrev pub is_one : Bool → ℕ
is_one b = cond b 1 0

pub same_self : (x : List ℕ) → bytes_eq x x ≡ true
same_self x = (bytes_eq-Decides x x).1 refl

pub times_none : (t : List ℕ) → times t [] ≡ 0
unfolding times
times_none t = refl

pub times_cons : (t x : List ℕ) (xs : List (List ℕ)) → times t (x ∷ xs) ≡ is_one (bytes_eq x t) + times t xs
unfolding times
times_cons t x xs = sum_by-cons (λ u. cond (bytes_eq u t) 1 0) x xs

pub times_append : (t : List ℕ) (xs ys : List (List ℕ)) → times t (xs ++ ys) ≡ times t xs + times t ys
unfolding times
times_append t xs ys = sum_by-append (λ u. cond (bytes_eq u t) 1 0) xs ys

times_is : (t : List ℕ) (xs : List (List ℕ)) → times t xs ≡ sum_by (λ u. cond (bytes_eq u t) 1 0) xs
unfolding times
times_is t xs = refl

pub times_here : (t x : List ℕ) (xs : List (List ℕ)) → bytes_eq x t ≡ true → times t (x ∷ xs) ≡ 1 + times t xs
times_here t x xs e = let c = times_cons t x xs in let k = ap is_one e in omega arith

pub times_other : (t x : List ℕ) (xs : List (List ℕ)) → bytes_eq x t ≡ false → times t (x ∷ xs) ≡ times t xs
times_other t x xs e = let c = times_cons t x xs in let k = ap is_one e in omega arith

pub times_few : (t : List ℕ) (xs : List (List ℕ)) → times t xs ≤ length xs
unfolding times
times_few t xs = count_by-le-length (λ u. bytes_eq u t) xs

-- a tuple that is nowhere in a list
pub times_nowhere : (t : List ℕ) (xs : List (List ℕ)) → ((k : ℕ) (d : List ℕ) → k < length xs → bytes_eq (get_or xs k d) t ≡ false) → times t xs ≡ 0
times_nowhere t [] h = times_none t
times_nowhere t (x ∷ xs) h = times_other t x xs (h 0 x (omega arith)) ∙ times_nowhere t xs (λ k d l. h (suc k) d (omega arith))

-- one more element, which is the tuple or isn't
pub taken_here : (t : List ℕ) (xs : List (List ℕ)) (i : ℕ) (d : List ℕ) → i < length xs → bytes_eq (get_or xs i d) t ≡ true → times t (take (i + 1) xs) ≡ times t (take i xs) + 1
unfolding times
taken_here t xs i d l e = count_by_more_yes (λ u. bytes_eq u t) xs i d l e

pub taken_other : (t : List ℕ) (xs : List (List ℕ)) (i : ℕ) (d : List ℕ) → i < length xs → bytes_eq (get_or xs i d) t ≡ false → times t (take (i + 1) xs) ≡ times t (take i xs)
unfolding times
taken_other t xs i d l e = count_by_more_no (λ u. bytes_eq u t) xs i d l e

pub times_head : (x : List ℕ) (xs : List (List ℕ)) → times x (x ∷ xs) ≢ 0
times_head x xs =
    let one : times x (x ∷ xs) ≡ 1 + times x xs = times_cons x x xs ∙ ap (λ b. is_one b + times x xs) (same_self x) in
    λ z. omega arith

pub times_tail : (t u : List ℕ) (ts : List (List ℕ)) → times t ts ≢ 0 → times t (u ∷ ts) ≢ 0
times_tail t u ts h = let e = times_cons t u ts in λ z. h (omega arith)

-- a tuple that is somewhere in a list
pub times_somewhere : (t : List ℕ) (xs : List (List ℕ)) (k : ℕ) (d : List ℕ) → k < length xs → get_or xs k d ≡ t → times t xs ≢ 0
times_somewhere t [] k d l e = absurd (omega arith)
times_somewhere t (x ∷ xs) zero d l e = subst (λ z. times z (x ∷ xs) ≢ 0) e (times_head x xs)
times_somewhere t (x ∷ xs) (suc k) d l e = times_tail t x xs (times_somewhere t xs k d (omega arith) e)

-- the list without the first x
abbrev without : List ℕ → List (List ℕ) → List (List ℕ)
without x [] = []
without x (y ∷ ys) = cond (bytes_eq y x) ys (y ∷ without x ys)

without_at : (h : List ℕ → ℕ) (x y : List ℕ) (ys : List (List ℕ)) → (times x ys ≢ 0 → sum_by h ys ≡ h x + sum_by h (without x ys)) → (b : Bool) → bytes_eq y x ≡ b → is_one b + times x ys ≢ 0 → sum_by h (y ∷ ys) ≡ h x + sum_by h (cond b ys (y ∷ without x ys))
without_at h x y ys ih true e n = sum_by-cons h y ys ∙ ap (λ z. h z + sum_by h ys) ((bytes_eq-Decides y x).0 e)
without_at h x y ys ih false e n =
    let k = ih (λ z. n (omega arith)) in
    let l = sum_by-cons h y ys in
    let m = sum_by-cons h y (without x ys) in
    omega arith

without_is : (h : List ℕ → ℕ) (x : List ℕ) (ys : List (List ℕ)) → times x ys ≢ 0 → sum_by h ys ≡ h x + sum_by h (without x ys)
without_is h x [] n = absurd (n (times_none x))
without_is h x (y ∷ ys) n = without_at h x y ys (without_is h x ys) (bytes_eq y x) refl (λ z. n (times_cons x y ys ∙ z))

none_left : (ys : List (List ℕ)) → AsOften [] ys → ys ≡ []
none_left [] e = refl
none_left (y ∷ ys) e = absurd (times_head y ys (sym (e y) ∙ times_none y))

-- Where each tuple stands equally often in two lists, every weight of tuples sums up to the same.
pub weights : (h : List ℕ → ℕ) (xs ys : List (List ℕ)) → AsOften xs ys → sum_by h xs ≡ sum_by h ys
weights h [] ys e = ap (sum_by h) (sym (none_left ys e))
weights h (x ∷ xs) ys e =
    let n : times x ys ≢ 0 = λ z. times_head x xs (e x ∙ z) in
    let rest : AsOften xs (without x ys) = λ t.
    let a = times_cons t x xs in
    let b = without_is (λ u. cond (bytes_eq u t) 1 0) x ys n in
    let d = times_is t ys in
    let f = times_is t (without x ys) in
    let g = e t in
    omega arith in
    let w = weights h xs (without x ys) rest in
    let l = sum_by-cons h x xs in
    let m = without_is h x ys n in
    omega arith

-- the other way: lists of one weight hold each tuple equally often
pub from_weights : (xs ys : List (List ℕ)) → ((h : List ℕ → ℕ) → sum_by h xs ≡ sum_by h ys) → AsOften xs ys
unfolding times
from_weights xs ys w = λ t. w (λ u. cond (bytes_eq u t) 1 0)

-- one list in another order
pub often_from_permutation : (xs ys : List (List ℕ)) → IsPermutation xs ys → AsOften xs ys
often_from_permutation xs ys h = from_weights xs ys (λ f. sym (sum_by-IsPermutation f xs ys h))

-- the element whose part has it, and back
pub times_part : {X : Type 0} (f : X → List (List ℕ)) (t : List ℕ) (xs : List X) → times t (flat_map f xs) ≢ 0 → (x : X) × Contains xs x × (times t (f x) ≢ 0)
times_part f t [] h = absurd (h (times_none t))
times_part f t (x ∷ xs) h =
    let e = times_append t (f x) (flat_map f xs) in
    elim (cases_eq (times t (f x)) 0) [
      | inl z ↦ (let w = times_part f t xs (λ y. h (omega arith)) in (w.0, (suc w.1.0, more_below w.1.0 (length xs) w.1.1, w.1.2), w.2))
      | inr z ↦ (x, (0, above_none (length xs), refl), z)
    ]
  where
    above_none : (n : ℕ) → 0 < suc n
    above_none n = omega arith

    more_below : (k n : ℕ) → k < n → suc k < suc n
    more_below k n h = omega arith

pub part_times : {X : Type 0} (f : X → List (List ℕ)) (t : List ℕ) (x : X) (xs : List X) → Contains xs x → times t (f x) ≢ 0 → times t (flat_map f xs) ≢ 0
part_times f t x xs h n = at xs h.0 h.1 h.2
  where
    at : (ys : List _) (k : ℕ) → k < length ys → get_or ys k x ≡ x → times t (flat_map f ys) ≢ 0
    at [] k l e = absurd (omega arith)
    at (y ∷ ys) zero l e =
        let m = times_append t (f y) (flat_map f ys) in
        let s : times t (f y) ≡ times t (f x) = ap (λ z. times t (f z)) e in
        λ z. n (omega arith)
    at (y ∷ ys) (suc k) l e =
        let m = times_append t (f y) (flat_map f ys) in
        let r = at ys k (omega arith) e in
        λ z. r (omega arith)

-- a tuple that stands alone
stands_once : (t u : List ℕ) → times t (u ∷ []) ≡ is_one (bytes_eq u t)
stands_once t u = let c = times_cons t u [] in let n = times_none t in omega arith

pub is_alone : (t u : List ℕ) → times t (u ∷ []) ≢ 0 → u ≡ t
is_alone t u h = elim (cases_Bool (bytes_eq u t)) [
  | inl e ↦ (bytes_eq-Decides u t).0 e
  | inr e ↦ absurd (h (stands_once t u ∙ ap is_one e))
]

-- an element whose image is counted, and back
pub times_map : {X : Type 0} (f : X → List ℕ) (t : List ℕ) (xs : List X) → times t (map f xs) ≢ 0 → (x : X) × Contains xs x × (f x ≡ t)
times_map f t xs h =
    let w = times_part (λ x. f x ∷ []) t xs (subst (λ ys. times t ys ≢ 0) (sym (flat_map_single f xs)) h) in
    (w.0, w.1, is_alone t (f w.0) w.2)

pub map_times : {X : Type 0} (f : X → List ℕ) (x : X) (xs : List X) → Contains xs x → times (f x) (map f xs) ≢ 0
map_times f x xs h = subst (λ ys. times (f x) ys ≢ 0) (flat_map_single f xs) (part_times (λ y. f y ∷ []) (f x) x xs h (times_head (f x) []))

-- what is equally often in each part is so in all
pub times_each : {X : Type 0} (t : List ℕ) (P : X → Type 0) (f g : X → List (List ℕ)) → ((x : X) → P x → times t (f x) ≡ times t (g x)) → (xs : List X) → All P xs → times t (flat_map f xs) ≡ times t (flat_map g xs)
times_each t P f g h [] all = refl
times_each t P f g h (x ∷ xs) all =
    let a = times_append t (f x) (flat_map f xs) in
    let b = times_append t (g x) (flat_map g xs) in
    let c = h x (All-head P x xs all) in
    let d = times_each t P f g h xs (All-tail P x xs all) in
    omega arith

-- two parts of each element, or all first parts and then all second ones
pub times_split : {X : Type 0} (t : List ℕ) (f g : X → List (List ℕ)) (xs : List X) → times t (flat_map (λ x. f x ++ g x) xs) ≡ times t (flat_map f xs) + times t (flat_map g xs)
times_split t f g [] = let n = times_none t in omega arith
times_split t f g (x ∷ xs) =
    let a = times_append t (f x ++ g x) (flat_map (λ y. f y ++ g y) xs) in
    let b = times_append t (f x) (g x) in
    let c = times_append t (f x) (flat_map f xs) in
    let d = times_append t (g x) (flat_map g xs) in
    let e = times_split t f g xs in
    omega arith
