-- The least of a list is in it and at most each of its elements.
use Rattle.std.proofs.Common.{◌≡◌, ◌<◌, ◌≤◌, ℕ, zero, suc, List, [], ◌∷◌, length, get_or, min, Option, Some, None, unwrap_or, refl, ap, subst, arith, rules, ◌⊎◌, inl, inr}
use Rattle.std.specs.List.{Contains}
use Rattle.std.proofs.lemmas.Bool.{cases_order}
use Rattle.pil_names.specs.Least.{lesser, least, IsLeast}

none : (ns : List ℕ) → least ns ≡ None → ns ≡ []
none [] e = refl
none (x ∷ xs) e = of_rest (least xs) e
  where
    of_rest : (a : Option ℕ) → lesser (Some x) a ≡ None → x ∷ xs ≡ []
    of_rest None e' = search rules
    of_rest (Some n) e' = search rules

one-more : (x : ℕ) (xs : List ℕ) (m : ℕ) → Contains xs m → Contains (x ∷ xs) m
one-more x xs m (k, l, e) = (suc k, omega arith, e)

some-injective : (a b : ℕ) → Some a ≡ Some b → a ≡ b
some-injective a b e = ap (λ o. unwrap_or o a) e

among-order : (x : ℕ) (xs : List ℕ) (m n : ℕ) → Contains xs n → min x n ≡ m → (x ≡ n) ⊎ ((x < n) ⊎ (n < x)) → Contains (x ∷ xs) m
among-order x xs m n h e (inl o) = (0, omega arith, omega arith)
among-order x xs m n h e (inr (inl o)) = (0, omega arith, omega arith)
among-order x xs m n h e (inr (inr o)) = let e' : n ≡ m = omega arith in one-more x xs m (subst (Contains xs) e' h)

among-rest : (x : ℕ) (xs : List ℕ) (m : ℕ) (a : Option ℕ) → ((n : ℕ) → a ≡ Some n → Contains xs n) → lesser (Some x) a ≡ Some m → Contains (x ∷ xs) m
among-rest x xs m None h e = (0, omega arith, some-injective x m e)
among-rest x xs m (Some n) h e = among-order x xs m n (h n refl) (some-injective (min x n) m e) (cases_order x n)

among : (ns : List ℕ) (m : ℕ) → least ns ≡ Some m → Contains ns m
among [] m e = search rules
among (x ∷ xs) m e = among-rest x xs m (least xs) (λ n. among xs n) e

lowest-rest : (x : ℕ) (xs : List ℕ) (m : ℕ) (a : Option ℕ) → (a ≡ None → xs ≡ []) → ((n : ℕ) → a ≡ Some n → (k d : ℕ) → k < length xs → n ≤ get_or xs k d) → lesser (Some x) a ≡ Some m → (k d : ℕ) → k < length (x ∷ xs) → m ≤ get_or (x ∷ xs) k d
lowest-rest x xs m None g h e zero d l = omega (arith, some-injective x m e)
lowest-rest x xs m None g h e (suc k) d l = absurd (omega (arith, ap length (g refl)))
lowest-rest x xs m (Some n) g h e zero d l = omega (arith, some-injective (min x n) m e)
lowest-rest x xs m (Some n) g h e (suc k) d l = omega (arith, some-injective (min x n) m e, h n refl k d (omega arith))

lowest : (ns : List ℕ) (m : ℕ) → least ns ≡ Some m → (k d : ℕ) → k < length ns → m ≤ get_or ns k d
lowest [] m e k d l = absurd (omega arith)
lowest (x ∷ xs) m e k d l = lowest-rest x xs m (least xs) (none xs) (λ n. lowest xs n) e k d l

pub is_least : IsLeast
is_least = record {
  among = among;
  lowest = λ ns m e n h. subst (λ k. m ≤ k) h.2 (lowest ns m e h.0 n h.1);
  none = none;
}
