-- Sums over the views of all passes, which are found by their number.
use Rattle.std.proofs.Common.{◌≡◌, ℕ, zero, suc, ◌+◌, ◌≤◌, List, [], ◌∷◌, set, refl, sym, ap, subst, ◌∙◌, arith}
use Rattle.std.specs.Prelude.{All, sum_by}
use Rattle.std.specs.List.{flat_map}
use Rattle.std.proofs.lemmas.List.Elements.{All-head, All-tail}
use Rattle.std.proofs.lemmas.List.Sums.{sum_by-cons, sum_by-append}
use mathlib.Core.Option.{some, some-injective, some-ne-none}
use lib.ListN.{get_elem?}

pub sum_by-flat_map : {V T : Type 0} (h : T → ℕ) (f : V → List T) (xs : List V) → sum_by h (flat_map f xs) ≡ sum_by (λ x. sum_by h (f x)) xs
sum_by-flat_map h f [] = refl
sum_by-flat_map h f (x ∷ xs) = sum_by-append h (f x) (flat_map f xs) ∙ ap (λ n. sum_by h (f x) + n) (sum_by-flat_map h f xs) ∙ sym (sum_by-cons (λ y. sum_by h (f y)) x xs)

module _ {V : Type 0} where
  pub All-there : (P : V → Type 0) (xs : List V) (port : ℕ) (v : V) → All P xs → get_elem? xs port ≡ some v → P v
  All-there P [] zero v all at = absurd (some-ne-none v (sym at))
  All-there P [] (suc port) v all at = absurd (some-ne-none v (sym at))
  All-there P (x ∷ xs) zero v all at = subst P (some-injective x v at) (All-head P x xs all)
  All-there P (x ∷ xs) (suc port) v all at = All-there P xs port v (All-tail P x xs all) at

  module _ (f : V → ℕ) where
    -- the total after a change at one place
    pub total-set : (xs : List V) (port : ℕ) (v w : V) → get_elem? xs port ≡ some v → sum_by f (set xs port w) + f v ≡ sum_by f xs + f w
    total-set [] zero v w at = absurd (some-ne-none v (sym at))
    total-set [] (suc port) v w at = absurd (some-ne-none v (sym at))
    total-set (x ∷ xs) zero v w at = let is : f x ≡ f v = ap f (some-injective x v at) in omega (arith, sum_by-cons f w xs, sum_by-cons f x xs)
    total-set (x ∷ xs) (suc port) v w at = let h = total-set xs port v w at in omega (arith, sum_by-cons f x (set xs port w), sum_by-cons f x xs)

    -- each part is at most the total
    pub part_of_total : (xs : List V) (port : ℕ) (v : V) → get_elem? xs port ≡ some v → f v ≤ sum_by f xs
    part_of_total [] zero v at = absurd (some-ne-none v (sym at))
    part_of_total [] (suc port) v at = absurd (some-ne-none v (sym at))
    part_of_total (x ∷ xs) zero v at = let is : f x ≡ f v = ap f (some-injective x v at) in omega (arith, sum_by-cons f x xs)
    part_of_total (x ∷ xs) (suc port) v at = let h = part_of_total xs port v at in omega (arith, sum_by-cons f x xs)

  -- where whoever has no share has nothing
  module _ (P : V → Type 0) (share f : V → ℕ) (idle : (u : V) → P u → share u ≡ 0 → f u ≡ 0) where
    -- without shares the total is 0
    total_of_none : (xs : List V) → All P xs → sum_by share xs ≡ 0 → sum_by f xs ≡ 0
    total_of_none [] all none = refl
    total_of_none (x ∷ xs) all none =
        let s = sum_by-cons share x xs in
        let here = idle x (All-head P x xs all) (omega arith) in
        let h = total_of_none xs (All-tail P x xs all) (omega arith) in omega (arith, sum_by-cons f x xs)

    -- where one has all shares, the total is its part
    pub total_of_one : (xs : List V) (port : ℕ) (v : V) → All P xs → get_elem? xs port ≡ some v → sum_by share xs ≡ share v → sum_by f xs ≡ f v
    total_of_one [] zero v all at whole = absurd (some-ne-none v (sym at))
    total_of_one [] (suc port) v all at whole = absurd (some-ne-none v (sym at))
    total_of_one (x ∷ xs) zero v all at whole =
        let is = some-injective x v at in
        let a : share x ≡ share v = ap share is in
        let b : f x ≡ f v = ap f is in
        let s = sum_by-cons share x xs in
        let h = total_of_none xs (All-tail P x xs all) (omega arith) in omega (arith, sum_by-cons f x xs)
    total_of_one (x ∷ xs) (suc port) v all at whole =
        let s = sum_by-cons share x xs in
        let m = part_of_total share xs port v at in
        let here = idle x (All-head P x xs all) (omega arith) in
        let h = total_of_one xs port v (All-tail P x xs all) at (omega arith) in omega (arith, sum_by-cons f x xs)
