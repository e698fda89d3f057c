-- A list in order of a number, in which each number of a range stands once.
use Rattle.std.proofs.Common.{◌≡◌, ◌≢◌, ℕ, zero, suc, ◌+◌, ◌<◌, ◌≤◌, if◌then◌else◌, ◌==◌, Bool, true, false, cond, inl, inr, List, [], ◌∷◌, map, refl, sym, ap, ◌∙◌, subst, arith}
use Rattle.std.specs.Prelude.{All, filter}
use Rattle.std.specs.List.{sum_by, range_with_len}
use Rattle.std.specs.List.Sorted.{IsNonDecreasingBy}
use Rattle.std.proofs.lemmas.List.Sums.{sum_by-cons}
use Rattle.std.proofs.lemmas.List.Sorted.{IsNonDecreasingBy-drop}
use Rattle.std.proofs.lemmas.List.Elements.{All-head, All-tail}
use Rattle.std.proofs.lemmas.List.FromFn.{get_or-range_with_len, length-range_with_len}
use Rattle.std.proofs.lemmas.Bool.{cases_eq}
use Rattle.std.proofs.lemmas.Bool.Decides.{nat_tests}

abbrev pub is_at : ℕ → ℕ → ℕ
is_at k n = if n == k then 1 else 0

at_itself : (n : ℕ) → is_at n n ≡ 1
at_itself n = grind (arith, nat_tests)

at_other : (k n : ℕ) → n ≢ k → is_at k n ≡ 0
at_other k n ne = grind (arith, nat_tests)

-- nothing is found below what all are
found_above : {X : Type 0} (key : X → ℕ) (m k : ℕ) (xs : List X) → All (λ x. m ≤ key x) xs → 0 < sum_by (λ x. is_at k (key x)) xs → m ≤ k
found_above key m k [] all some = absurd (omega arith)
found_above {X} key m k (x ∷ xs) all some = elim (cases_eq (key x) k) [
  | inl e ↦ let h : m ≤ key x = All-head (λ (y : X). m ≤ key y) x xs all in omega arith
  | inr ne ↦ let skip = at_other k (key x) ne in
      let c = sum_by-cons (λ (y : X). is_at k (key y)) x xs in
      found_above key m k xs (All-tail (λ (y : X). m ≤ key y) x xs all) (omega arith)
]

range_above : (a n k : ℕ) → 0 < sum_by (is_at k) (range_with_len a n) → a ≤ k
range_above a n k some =
    found_above (λ x. x) a k (range_with_len a n)
    (λ i d lt. let e = get_or-range_with_len a n i d (subst (λ l. i < l) (length-range_with_len a n) lt) in omega arith)
    some

head_least : {X : Type 0} (key : X → ℕ) (x : X) (xs : List X) → IsNonDecreasingBy key (x ∷ xs) → All (λ y. key x ≤ key y) (x ∷ xs)
head_least key x xs up = λ i d lt. up 0 i d (omega arith) lt

pub in_range : {X : Type 0} (key : X → ℕ) (f : ℕ → X) (xs : List X) (a n : ℕ) → IsNonDecreasingBy key xs → ((k : ℕ) → sum_by (λ x. is_at k (key x)) xs ≡ sum_by (is_at k) (range_with_len a n)) → All (λ x. x ≡ f (key x)) xs
    → xs ≡ map f (range_with_len a n)
in_range key f [] a zero up same all = refl
in_range {X} key f (x ∷ xs) a zero up same all =
    let c = sum_by-cons (λ (y : X). is_at (key x) (key y)) x xs in
    let one = at_itself (key x) in
    let none = same (key x) in
    absurd (omega arith)
in_range key f [] a (suc n) up same all =
    let c = sum_by-cons (is_at a) a (range_with_len (a + 1) n) in
    let one = at_itself a in
    let none = same a in
    absurd (omega arith)
in_range {X} key f (x ∷ xs) a (suc n) up same all =
    let w : ℕ → X → ℕ = λ k y. is_at k (key y) in
    let mine = sum_by-cons (w (key x)) x xs in
    let itself = at_itself (key x) in
    let here = same (key x) in
    let low : a ≤ key x = range_above a (suc n) (key x) (omega arith) in
    let first = sum_by-cons (is_at a) a (range_with_len (a + 1) n) in
    let one = at_itself a in
    let there = same a in
    let high : key x ≤ a = found_above key (key x) a (x ∷ xs) (head_least key x xs up) (omega arith) in
    let e : key x ≡ a = omega arith in
    let rest = in_range key f xs (a + 1) n (IsNonDecreasingBy-drop key 1 (x ∷ xs) up)
    (λ k.
    let c = sum_by-cons (w k) x xs in
    let d = sum_by-cons (is_at k) a (range_with_len (a + 1) n) in
    let s = same k in
    let t : is_at k (key x) ≡ is_at k a = ap (is_at k) e in
    omega arith)
    (All-tail (λ (y : X). y ≡ f (key y)) x xs all) in
    let front : x ≡ f a = All-head (λ (y : X). y ≡ f (key y)) x xs all ∙ ap f e in
    ap (λ y. y ∷ xs) front ∙ ap (λ l. f a ∷ l) rest

-- a sum over what a filter keeps
kept : {X : Type 0} (w : X → ℕ) (x : X) (ys : List X) (b : Bool) → sum_by w (cond b (x ∷ ys) ys) ≡ cond b (w x) 0 + sum_by w ys
kept w x ys true = sum_by-cons w x ys
kept w x ys false = omega arith

pub sum_kept : {X : Type 0} (w : X → ℕ) (p : X → Bool) (xs : List X) → sum_by w (filter p xs) ≡ sum_by (λ x. cond (p x) (w x) 0) xs
sum_kept w p [] = refl
sum_kept {X} w p (x ∷ xs) =
    let k = kept w x (filter p xs) (p x) in
    let ih = sum_kept w p xs in
    let c = sum_by-cons (λ (y : X). cond (p y) (w y) 0) x xs in
    omega arith

pub sum_map : {X Y : Type 0} (w : Y → ℕ) (f : X → Y) (xs : List X) → sum_by w (map f xs) ≡ sum_by (λ x. w (f x)) xs
sum_map w f [] = refl
sum_map {X} w f (x ∷ xs) = sum_by-cons w (f x) (map f xs) ∙ ap (λ k. w (f x) + k) (sum_map w f xs) ∙ sym (sum_by-cons (λ (y : X). w (f y)) x xs)
