-- The lists of the keys that have some, key by key, are all accesses in order.
use Rattle.std.proofs.Common.{◌≡◌, ◌+◌, ◌<◌, ◌≤◌, ◌⊎◌, inl, inr, ℕ, zero, suc, List, [], ◌∷◌, ◌++◌, length, refl, ap, sym, ◌∙◌, subst, arith}
use Rattle.std.specs.Prelude.{All, Contains}
use Rattle.std.specs.List.{flat_map, range_with_len}
use Rattle.std.proofs.lemmas.Bool.{cases_lt}
use Rattle.mem_rows.specs.declared.access.Access.{Access}
use Rattle.mem_rows.specs.Order.{of_key, key_end, in_order}

-- keys that rise, from low on and below the end
abbrev pub Ascends : ℕ → ℕ → List ℕ → Type 0
Ascends low end [] = Unit {0}
Ascends low end (k ∷ ks) = (low ≤ k) × (k < end) × Ascends (k + 1) end ks

abbrev pub Among : ℕ → List ℕ → Type 0
Among k [] = ⊥
Among k (j ∷ js) = (k ≡ j) ⊎ Among k js

-- for each key a chain of its accesses; only these keys have some
pub record AreChains (xs : List Access) (chain : ℕ → List Access) (keys : List ℕ) : Type 0 where
  pub up : Ascends 0 key_end keys
  pub each : (k : ℕ) → chain k ≡ of_key xs k
  pub none : (k : ℕ) → (Among k keys → ⊥) → chain k ≡ []

keys_from : List Access → ℕ → ℕ → List Access
keys_from xs low n = flat_map (of_key xs) (range_with_len low n)

all_keys : (xs : List Access) (n : ℕ) → keys_from xs 0 n ≡ flat_map (of_key xs) (range_with_len 0 n)
unfolding keys_from
all_keys xs n = refl

-- chains: the accesses of each key that has some, key by key, are all in order of key
gap_empty : (xs : List Access) (low n : ℕ) → ((k : ℕ) → low ≤ k → of_key xs k ≡ []) → keys_from xs low n ≡ []
unfolding keys_from
gap_empty xs low zero h = refl
gap_empty xs low (suc n) h = ap (λ zs. zs ++ keys_from xs (low + 1) n) (h low (omega arith)) ∙ gap_empty xs (low + 1) n (λ k le. h k (omega arith))

not_below : (low end k : ℕ) (ks : List ℕ) → Ascends low end ks → k < low → Among k ks → ⊥
not_below low end k [] up lt m = m
not_below low end k (j ∷ js) up lt (inl e) = let le : low ≤ j = up.0 in omega arith
not_below low end k (j ∷ js) up lt (inr m) = let le : low ≤ j = up.0 in not_below (j + 1) end k js up.2 (omega arith) m

in_tail : (j k : ℕ) (js : List ℕ) → j + 1 ≤ k → (Among k js → ⊥) → Among k (j ∷ js) → ⊥
in_tail j k js le off (inl e) = omega arith
in_tail j k js le off (inr m) = off m

abbrev Rest : List Access → ℕ → ℕ → ℕ → Type 0
Rest xs low end n = (ks : List ℕ) → Ascends low end ks → ((k : ℕ) → low ≤ k → (Among k ks → ⊥) → of_key xs k ≡ []) → flat_map (of_key xs) ks ≡ keys_from xs low n

one_key : (xs : List Access) (low end n j : ℕ) (js : List ℕ) → (low < j) ⊎ (j ≤ low) → Ascends low end (j ∷ js) → ((k : ℕ) → low ≤ k → (Among k (j ∷ js) → ⊥) → of_key xs k ≡ []) → Rest xs (low + 1) end n
    → flat_map (of_key xs) (j ∷ js) ≡ keys_from xs low (suc n)
unfolding keys_from
one_key xs low end n j js (inl lt) up h rest =
    let none : of_key xs low ≡ [] = h low (omega arith) (λ m. not_below (low + 1) end low (j ∷ js) (omega arith, up.1, up.2) (omega arith) m) in
    rest (j ∷ js) (omega arith, up.1, up.2) (λ k le off. h k (omega arith) off) ∙ ap (λ zs. zs ++ keys_from xs (low + 1) n) (sym none)
one_key xs low end n j js (inr le) up h rest =
    let same : j ≡ low = let low_le : low ≤ j = up.0 in omega arith in
    let tail : Ascends (low + 1) end js = let P : ℕ → Type 0 = λ k. Ascends (k + 1) end js in subst P same up.2 in
    ap (λ k. of_key xs k ++ flat_map (of_key xs) js) same ∙ ap (λ zs. of_key xs low ++ zs) (rest js tail (λ k above off. h k (omega arith) (in_tail j k js (omega arith) off)))

chains_from : (xs : List Access) (low end n : ℕ) → end ≡ low + n → Rest xs low end n
chains_from xs low end n e [] up h = sym (gap_empty xs low n (λ k le. h k le (λ m. m)))
chains_from xs low end zero e (j ∷ js) up h = let a : low ≤ j = up.0 in let b : j < end = up.1 in absurd (omega arith)
chains_from xs low end (suc n) e (j ∷ js) up h = one_key xs low end n j js (cases_lt low j) up h (chains_from xs (low + 1) end n (omega arith))

flat_same : (f g : ℕ → List Access) → ((k : ℕ) → f k ≡ g k) → (ks : List ℕ) → flat_map f ks ≡ flat_map g ks
flat_same f g h [] = refl
flat_same f g h (k ∷ ks) = rw (h k, flat_same f g h ks) refl

pub chains_in_order : (xs : List Access) (chain : ℕ → List Access) (keys : List ℕ) → AreChains xs chain keys → flat_map chain keys ≡ in_order xs
unfolding in_order
chains_in_order xs chain keys are =
    flat_same chain (of_key xs) are.each keys ∙ chains_from xs 0 key_end key_end (omega arith) keys are.up (λ k le off. sym (are.each k) ∙ are.none k off) ∙ all_keys xs key_end
