-- Lists that are permuted, and pairs of their elements.
use Rattle.std.proofs.Common.{◌≡◌, ◌==◌, ◌+◌, ◌<◌, ◌≤◌, ◌⊎◌, inl, inr, ⊎_elim, ℕ, zero, suc, Bool, true, false, cond, not, List, [], ◌∷◌, ◌++◌, length, get_or, refl, ap, sym, ◌∙◌, subst, arith, append_assoc}
use Rattle.std.specs.Prelude.{All, AllPairs, Contains, nat_le}
use Rattle.std.specs.List.{flat_map, filter, range_with_len}
use Rattle.std.specs.List.Sorted.{IsPermutation}
use Rattle.std.proofs.lemmas.Bool.{eqb-true}
use Rattle.std.proofs.lemmas.Bool.Decides.{nat_tests}
use Rattle.std.proofs.lemmas.List.{append-nil}
use Rattle.std.proofs.lemmas.List.Elements.{All-nil, All-cons, All-append, All-head, All-tail, All-same, All-weaker, All-filter, All-contains, filter_passes}
use Rattle.std.proofs.lemmas.List.Kept.{AllPairs-cons, AllPairs-filter}
use Rattle.std.proofs.lemmas.List.Sorted.{IsPermutation-refl, IsPermutation-trans, IsPermutation-append_right, IsPermutation-filter_both}
use Rattle.mem_rows.specs.declared.access.Access.{Access}
use Rattle.mem_rows.specs.Order.{of_key, key_end, in_order}
use Rattle.mem_rows.specs.Sequence.{ComesBefore}

module _ {X : Type 0} (R : X → X → Type 0) where
  pub first_with : (x : X) (xs : List X) → AllPairs R (x ∷ xs) → All (R x) xs
  first_with x xs h k d lt = h 0 (suc k) d (omega arith) (omega arith)

  pub pairs_behind : (x : X) (xs : List X) → AllPairs R (x ∷ xs) → AllPairs R xs
  pairs_behind x xs h i j d lt within = h (suc i) (suc j) d (omega arith) (omega arith)

  pub pairs_append : (xs ys : List X) → AllPairs R xs → AllPairs R ys → All (λ x. All (R x) ys) xs → AllPairs R (xs ++ ys)
  pairs_append [] ys h k cross = k
  pairs_append (x ∷ xs) ys h k cross =
      AllPairs-cons R x (xs ++ ys) (All-append (R x) xs ys (first_with x xs h) (All-head (λ x. All (R x) ys) x xs cross)) (pairs_append xs ys (pairs_behind x xs h) k (All-tail (λ x. All (R x) ys) x xs cross))

  all_front : (P : X → Type 0) (xs ys : List X) → All P (xs ++ ys) → All P xs
  all_front P [] ys h = All-nil P
  all_front P (x ∷ xs) ys h = All-cons P x xs (All-head P x (xs ++ ys) h) (all_front P xs ys (All-tail P x (xs ++ ys) h))

  pub pairs_front : (xs ys : List X) → AllPairs R (xs ++ ys) → AllPairs R xs
  pairs_front [] ys h = λ i j d lt within. absurd (omega arith)
  pairs_front (x ∷ xs) ys h = AllPairs-cons R x xs (all_front (R x) xs ys (first_with x (xs ++ ys) h)) (pairs_front xs ys (pairs_behind x (xs ++ ys) h))

  -- of two lists' elements
  pub across : (xs ys : List X) (x y : X) → AllPairs R (xs ++ ys) → Contains xs x → Contains ys y → R x y
  across [] ys x y h (k, lt, e) b = absurd (omega arith)
  across (z ∷ xs) ys x y h (zero, lt, e) b = subst (λ w. R w y) e (All-contains (R z) (xs ++ ys) y (first_with z (xs ++ ys) h) (behind xs b))
    where
      behind : (us : List X) → Contains ys y → Contains (us ++ ys) y
      behind [] c = c
      behind (u ∷ us) c = let r = behind us c in (suc r.0, (let l = r.1 in omega arith), r.2)
  across (z ∷ xs) ys x y h (suc k, lt, e) b = across xs ys x y (pairs_behind z (xs ++ ys) h) (k, (omega arith), e) b

  pub pairs_weaker : (S : X → X → Type 0) (P : X → Type 0) → ((x y : X) → P x → P y → R x y → S x y) → (xs : List X) → All P xs → AllPairs R xs → AllPairs S xs
  pairs_weaker S P f xs all h i j d lt within = f (get_or xs i d) (get_or xs j d) (all i d (omega arith)) (all j d within) (h i j d lt within)

-- ---- all accesses, and those in order
filter_twice : (p q r : Access → Bool) → ((a : Access) → cond (q a) (p a) false ≡ r a) → (xs : List Access) → filter p (filter q xs) ≡ filter r xs
filter_twice p q r h [] = refl
filter_twice p q r h (a ∷ xs) =
    let rest = filter_twice p q r h xs in
    let found : (b : Bool) → q a ≡ b → filter p (filter q (a ∷ xs)) ≡ filter r (a ∷ xs) =
    λ b. elim b as (λ v. q a ≡ v → filter p (filter q (a ∷ xs)) ≡ filter r (a ∷ xs)) [
      | true ↦ λ e. let s : r a ≡ p a = sym (h a) ∙ rw e refl in rw (e, s, rest) refl
      | false ↦ λ e. let s : r a ≡ false = sym (h a) ∙ rw e refl in rw (e, s) rest
    ] in
    found (q a) refl

from_key : ℕ → List Access → List Access
from_key low xs = filter (λ (a : Access). nat_le low a.key) xs

at_key : (low k : ℕ) → cond (nat_le low k) (k == low) false ≡ (k == low)
at_key low k = grind (arith, nat_tests)

past_key : (low k : ℕ) → cond (nat_le low k) (not (k == low)) false ≡ nat_le (low + 1) k
past_key low k = grind (arith, nat_tests)

one_key_less : (xs : List Access) (low : ℕ) → IsPermutation (from_key low xs) (of_key xs low ++ from_key (low + 1) xs)
unfolding from_key
one_key_less xs low =
    subst (IsPermutation (from_key low xs))
    (ap (λ l. l ++ filter (λ (a : Access). not (a.key == low)) (from_key low xs)) (filter_twice (λ (a : Access). a.key == low) (λ (a : Access). nat_le low a.key) (λ (a : Access). a.key == low) (λ a. at_key low a.key) xs)
    ∙ ap (λ l. of_key xs low ++ l) (filter_twice (λ (a : Access). not (a.key == low)) (λ (a : Access). nat_le low a.key) (λ (a : Access). nat_le (low + 1) a.key) (λ a. past_key low a.key) xs))
    (IsPermutation-filter_both (λ (a : Access). a.key == low) (λ (a : Access). not (a.key == low)) (λ a. refl) (from_key low xs))

keys_apart : (xs : List Access) (n low : ℕ) → IsPermutation (from_key low xs) (flat_map (of_key xs) (range_with_len low n) ++ from_key (low + n) xs)
keys_apart xs zero low = let e : low + 0 ≡ low = omega arith in rw e (IsPermutation-refl (from_key low xs))
keys_apart xs (suc n) low =
    let e : low + suc n ≡ low + 1 + n = omega arith in
    IsPermutation-trans (from_key low xs) (of_key xs low ++ from_key (low + 1) xs) (flat_map (of_key xs) (range_with_len low (suc n)) ++ from_key (low + suc n) xs) (one_key_less xs low)
    (subst (IsPermutation (of_key xs low ++ from_key (low + 1) xs)) (sym (append_assoc (of_key xs low) (flat_map (of_key xs) (range_with_len (low + 1) n)) (from_key (low + 1 + n) xs)) ∙ ap (λ m. flat_map (of_key xs) (range_with_len low (suc n)) ++ from_key m xs) (sym e))
    (IsPermutation-append_right (of_key xs low) (from_key (low + 1) xs) (flat_map (of_key xs) (range_with_len (low + 1) n) ++ from_key (low + 1 + n) xs) (keys_apart xs n (low + 1))))

from_first : (xs : List Access) → from_key 0 xs ≡ xs
unfolding from_key
from_first [] = refl
from_first (a ∷ xs) = let yes : nat_le 0 a.key ≡ true = grind (arith, nat_tests) in rw yes (ap (λ l. a ∷ l) (from_first xs))

none_past : (end : ℕ) (xs : List Access) → All (λ (a : Access). a.key < end) xs → from_key end xs ≡ []
unfolding from_key
none_past end [] h = refl
none_past end (a ∷ xs) h =
    let lt : a.key < end = All-head (λ (a : Access). a.key < end) a xs h in
    let no : nat_le end a.key ≡ false = grind (arith, nat_tests) in rw no (none_past end xs (All-tail (λ (a : Access). a.key < end) a xs h))

pub permuted : (xs : List Access) → All (λ (a : Access). a.key < key_end) xs → IsPermutation xs (in_order xs)
unfolding in_order
permuted xs h =
    let all : flat_map (of_key xs) (range_with_len 0 key_end) ++ from_key (0 + key_end) xs ≡ flat_map (of_key xs) (range_with_len 0 key_end) =
    let e : 0 + key_end ≡ key_end = omega arith in
    ap (λ m. flat_map (of_key xs) (range_with_len 0 key_end) ++ from_key m xs) e ∙ ap (λ l. flat_map (of_key xs) (range_with_len 0 key_end) ++ l) (none_past key_end xs h) ∙ append-nil (flat_map (of_key xs) (range_with_len 0 key_end)) in
    subst (λ l. IsPermutation l (flat_map (of_key xs) (range_with_len 0 key_end))) (from_first xs) (subst (IsPermutation (from_key 0 xs)) all (keys_apart xs key_end 0))

-- of one key the later has the greater time
abbrev pub Later : Access → Access → Type 0
Later b a = b.key ≡ a.key → b.time < a.time

keys_are : (xs : List Access) (k : ℕ) → All (λ (a : Access). a.key ≡ k) (of_key xs k)
keys_are xs k = All-weaker (λ (a : Access). (a.key == k) ≡ true) (λ (a : Access). a.key ≡ k) (λ a e. eqb-true a.key k e) (of_key xs k) (filter_passes (λ (a : Access). a.key == k) xs)

abbrev From : ℕ → List Access → Type 0
From low xs = All (λ (a : Access). low ≤ a.key) xs

keys_from : (xs : List Access) (n low : ℕ) → From low (flat_map (of_key xs) (range_with_len low n))
keys_from xs zero low = All-nil (λ (a : Access). low ≤ a.key)
keys_from xs (suc n) low =
    All-append (λ (a : Access). low ≤ a.key) (of_key xs low) (flat_map (of_key xs) (range_with_len (low + 1) n)) (All-weaker (λ (a : Access). a.key ≡ low) (λ (a : Access). low ≤ a.key) (λ a e. omega arith) (of_key xs low) (keys_are xs low))
    (All-weaker (λ (a : Access). low + 1 ≤ a.key) (λ (a : Access). low ≤ a.key) (λ a e. omega arith) (flat_map (of_key xs) (range_with_len (low + 1) n)) (keys_from xs n (low + 1)))

keys_ascend : (xs : List Access) → AllPairs Later xs → (n low : ℕ) → AllPairs ComesBefore (flat_map (of_key xs) (range_with_len low n))
keys_ascend xs h zero low = λ i j d lt within. absurd (omega arith)
keys_ascend xs h (suc n) low =
    let rest = flat_map (of_key xs) (range_with_len (low + 1) n) in
    pairs_append ComesBefore (of_key xs low) rest
    (pairs_weaker Later ComesBefore (λ (a : Access). a.key ≡ low) (λ b a e f later. inr (e ∙ sym f, later (e ∙ sym f))) (of_key xs low) (keys_are xs low) (AllPairs-filter Later (λ (a : Access). a.key == low) xs h)) (keys_ascend xs h n (low + 1))
    (All-weaker (λ (b : Access). b.key ≡ low) (λ b. All (ComesBefore b) rest) (λ b e. All-weaker (λ (a : Access). low + 1 ≤ a.key) (ComesBefore b) (λ a le. inl (omega arith)) rest (keys_from xs n (low + 1))) (of_key xs low) (keys_are xs low))

pub ascends_in_order : (xs : List Access) → AllPairs Later xs → AllPairs ComesBefore (in_order xs)
unfolding in_order
ascends_in_order xs h = keys_ascend xs h key_end 0
