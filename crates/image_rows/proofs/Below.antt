-- What a function gives at the numbers below n, in order.
use Rattle.std.proofs.Common.{◌≡◌, ◌+◌, ◌-◌, ◌<◌, ◌≤◌, ◌⊎◌, inl, inr, ⊎_elim, ℕ, zero, suc, List, [], ◌∷◌, ◌++◌, length, get_or, Option, None, Some, refl, ap, sym, ◌∙◌, subst, arith, zero-add, length-append}
use Rattle.std.specs.List.{filter_map, range_with_len, Contains, All, AllPairs, cons_option}
use Rattle.std.specs.Option.{option_to_list}
use Rattle.std.proofs.lemmas.Bool.{cases_lt}
use Rattle.std.proofs.lemmas.List.{append-nil}
use Rattle.std.proofs.lemmas.List.Elements.{filter_map-append, Contains-append_left, Contains-push, All-nil, All-append, All-push, All-same}
use Rattle.std.proofs.lemmas.List.Quantifiers.{all_pairs_push}

range_more : (a n : ℕ) → range_with_len a (n + 1) ≡ range_with_len a n ++ (a + n) ∷ []
range_more a zero = let e : a + 0 ≡ a = omega arith in ap (λ x. x ∷ []) (sym e)
range_more a (suc n) =
    let e : suc n + 1 ≡ suc (n + 1) = omega arith in
    let f : a + 1 + n ≡ a + suc n = omega arith in
    ap (range_with_len a) e ∙ ap (λ xs. a ∷ xs) (range_more (a + 1) n) ∙ ap (λ x. a ∷ range_with_len (a + 1) n ++ x ∷ []) f

module _ {Y : Type 0} (f : ℕ → Option Y) where
  abbrev pub below : ℕ → List Y
  below n = filter_map f (range_with_len 0 n)

  one : (o : Option Y) → cons_option o [] ≡ option_to_list o
  one None = refl
  one (Some y) = refl

  pub below_more : (n : ℕ) → below (n + 1) ≡ below n ++ option_to_list (f n)
  below_more n =
      ap (filter_map f) (range_more 0 n) ∙ filter_map-append f (range_with_len 0 n) ((0 + n) ∷ [])
      ∙ ap (λ k. below n ++ cons_option (f k) []) (zero-add n) ∙ ap (λ ys. below n ++ ys) (one (f n))

  below_skipped : (m n : ℕ) → ((k : ℕ) → m ≤ k → k < m + n → f k ≡ None) → below (m + n) ≡ below m
  below_skipped m zero none = let e : m + 0 ≡ m = omega arith in ap below e
  below_skipped m (suc n) none =
      let e : m + suc n ≡ m + n + 1 = omega arith in
      ap below e ∙ below_more (m + n) ∙ ap (λ o. below (m + n) ++ option_to_list o) (none (m + n) (omega arith) (omega arith)) ∙ append-nil (below (m + n))
      ∙ below_skipped m n (λ k low high. none k low (omega arith))

  -- where there is nothing between two numbers
  pub below_same : (m n : ℕ) → m ≤ n → ((k : ℕ) → m ≤ k → k < n → f k ≡ None) → below n ≡ below m
  below_same m n le none =
      let e : n ≡ m + (n - m) = omega arith in
      ap below e ∙ below_skipped m (n - m) (λ k low high. none k low (omega arith))

  one_more : (n : ℕ) → below (suc n) ≡ below n ++ option_to_list (f n)
  one_more n = let e : suc n ≡ n + 1 = omega arith in ap below e ∙ below_more n

  pub each_below : (P : Y → Type 0) (n : ℕ) → ((k : ℕ) (y : Y) → k < n → f k ≡ Some y → P y) → All P (below n)
  each_below P zero h = All-nil P
  each_below P (suc n) h =
      let rest = each_below P n (λ k y lt. h k y (omega arith)) in
      let at : (o : Option Y) → f n ≡ o → All P (option_to_list o) =
      λ o. elim o as (λ v. f n ≡ v → All P (option_to_list v)) [ None ↦ λ e. All-nil P | Some y ↦ λ e. All-push P [] y (All-nil P) (h n y (omega arith) e) ] in
      All-same P (below (suc n)) (below n ++ option_to_list (f n)) (one_more n) (All-append P (below n) (option_to_list (f n)) rest (at (f n) refl))

  contained : (n : ℕ) (y : Y) → f n ≡ Some y → Contains (below (suc n)) y
  contained n y e =
      let is : below (suc n) ≡ below n ++ y ∷ [] = one_more n ∙ ap (λ o. below n ++ option_to_list o) e in
      let P : List Y → Type 0 = λ ys. Contains ys y in subst P (sym is) (Contains-push (below n) y)

  pub contains_below : (n k : ℕ) (y : Y) → k < n → f k ≡ Some y → Contains (below n) y
  contains_below zero k y lt e = absurd (omega arith)
  contains_below (suc n) k y lt e =
      let P : List Y → Type 0 = λ ys. Contains ys y in
      ⊎_elim (λ less. subst P (sym (one_more n)) (Contains-append_left (below n) (option_to_list (f n)) y (contains_below n k y less e)))
      (λ from. let is : k ≡ n = omega arith in contained n y (ap f (sym is) ∙ e)) (cases_lt k n)

  -- in ascending order by a number that ascends with k
  pub pairs_below : (h : Y → ℕ) (g : ℕ → ℕ) → ((k : ℕ) (y : Y) → f k ≡ Some y → h y ≡ g k) → ((j k : ℕ) → j < k → g j < g k) → (n : ℕ) → AllPairs (λ a b. h a < h b) (below n)
  pairs_below h g is up zero = λ i j d lt in'. absurd (omega arith)
  pairs_below h g is up (suc n) =
      let P : List Y → Type 0 = λ ys. AllPairs (λ a b. h a < h b) ys in
      let rest = pairs_below h g is up n in
      let at : (o : Option Y) → f n ≡ o → AllPairs (λ a b. h a < h b) (below n ++ option_to_list o) =
      λ o. elim o as (λ v. f n ≡ v → AllPairs (λ a b. h a < h b) (below n ++ option_to_list v)) [
        | None ↦ λ e. subst P (sym (append-nil (below n))) rest
        | Some y ↦ λ e. all_pairs_push (λ a b. h a < h b) (below n) y rest
            (each_below (λ a. h a < h y) n (λ k a lt at_k. let a_is = is k a at_k in let y_is = is n y e in let less = up k n lt in omega arith))
      ] in
      subst P (sym (one_more n)) (at (f n) refl)

  few : (o : Option Y) → length (option_to_list o) ≤ 1
  few None = omega arith
  few (Some y) = omega arith

  pub length_below : (n : ℕ) → length (below n) ≤ n
  length_below zero = omega arith
  length_below (suc n) =
      let e : length (below (suc n)) ≡ length (below n) + length (option_to_list (f n)) = ap (length {A = Y}) (one_more n) ∙ length-append (below n) (option_to_list (f n)) in
      let rest = length_below n in let one = few (f n) in omega arith
