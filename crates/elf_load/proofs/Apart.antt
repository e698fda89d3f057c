-- Segments that are apart, in the order of the file and in that of their addresses.
use Rattle.std.proofs.Common.{◌≡◌, ◌≢◌, ℕ, suc, ◌+◌, ◌<◌, ◌≤◌, ◌⊎◌, inl, inr, List, [], ◌∷◌, Bool, true, false, cond, length, get_or, filter, All, AllPairs, refl, sym, ◌∙◌, ap, subst, arith, max, nat_lt, ◌==◌}
use Rattle.std.specs.List.{AllAdjacentBelow, swap}
use Rattle.std.specs.List.Sorted.{IsPermutation}
use Rattle.std.proofs.lemmas.Bool.{and_parts, and_from, ltb-true, lt-ltb, eqb-true, eqb-false}
use Rattle.std.proofs.lemmas.Bool.Decides.{nat_tests}
use Rattle.std.proofs.lemmas.List.Edits.{length-swap, Swapped, swapped_from_swap}
use Rattle.std.proofs.lemmas.List.Sorted.{IsPermutation-keeps, IsPermutation-sym, All-permutation}
use Rattle.std.proofs.lemmas.List.Kept.{AllPairs-cons, AllPairs-filter}
use Rattle.std.proofs.lemmas.List.Elements.{All-cons, All-head, All-tail, All-nil, filter_passes}
use Rattle.elf_load.specs.File.{e_phnum, header, headers_of}
use Rattle.elf_load.specs.Header.{Covers, has_memory, is_load}
use Rattle.elf_load.specs.Layout.{EndsBefore, Ascends}
use Rattle.elf_load.specs.Refusal.{Fails}
use Rattle.elf_load.specs.declared.header.ProgramHeader.{ProgramHeader}
use Rattle.elf_load.specs.declared.error.ElfErr.TheVariants.{Overlap}
use Rattle.elf_load.proofs.Headers.{length_headers, header_is}

-- one of two segments ends before the other begins
abbrev pub IsApart : ProgramHeader → ProgramHeader → Type 0
IsApart g h = EndsBefore g h ⊎ EndsBefore h g

apart_sym : (g h : ProgramHeader) → IsApart g h → IsApart h g
apart_sym g h a = elim a [ inl e ↦ inr e | inr e ↦ inl e ]

-- a relation of any two elements, in whichever order they stand
abbrev AnyTwo : {X : Type 0} → (X → X → Type 0) → List X → Type 0
AnyTwo {X} R xs = (i j : ℕ) (d : X) → i < length xs → j < length xs → i ≢ j → R (get_or xs i d) (get_or xs j d)

any_two : {X : Type 0} (R : X → X → Type 0) (flip : (x y : X) → R x y → R y x) (xs : List X) → AllPairs R xs → AnyTwo R xs
any_two R flip xs h i j d p q ne =
    let cases : (i < j) ⊎ (j < i) = grind arith in
    elim cases [ inl l ↦ h i j d l q | inr l ↦ flip _ _ (h j i d l p) ]

-- where the element at i stood before a swap of a and b
abbrev place : ℕ → ℕ → ℕ → ℕ
place a b i = cond (i == a) b (cond (i == b) a i)

moved : {X : Type 0} (f g : ℕ → X) (a b i : ℕ) → Swapped f g a b → g i ≡ f (place a b i)
moved f g a b i s =
    elim (i == a) as (λ t. (i == a) ≡ t → g i ≡ f (cond t b (cond (i == b) a i))) [
      | true ↦ λ e. ap g (eqb-true i a e) ∙ s.0
      | false ↦ λ e. elim (i == b) as (λ t. (i == b) ≡ t → g i ≡ f (cond t a i)) [
        | true ↦ λ k. ap g (eqb-true i b k) ∙ s.1
        | false ↦ λ k. s.2 i (eqb-false i a e) (eqb-false i b k)
      ] refl
    ] refl

place_below : (a b i n : ℕ) → a < n → b < n → i < n → place a b i < n
place_below a b i n p q r = grind (arith, nat_tests)

place_apart : (a b i j : ℕ) → i ≢ j → place a b i ≢ place a b j
place_apart a b i j ne e = grind (arith, nat_tests)

any_two_swapped : {X : Type 0} (R : X → X → Type 0) (xs : List X) (a b : ℕ) → a < length xs → b < length xs → AnyTwo R xs → AnyTwo R (swap xs a b)
any_two_swapped R xs a b p q h i j d k l ne =
    let s = swapped_from_swap xs (swap xs a b) a b d p q refl in
    let i_in : i < length xs = omega (arith, length-swap xs a b) in
    let j_in : j < length xs = omega (arith, length-swap xs a b) in
    subst (λ y. R (get_or (swap xs a b) i d) y) (sym (moved (λ i. get_or xs i d) (λ i. get_or (swap xs a b) i d) a b j s))
    (subst (λ x. R x (get_or xs (place a b j) d)) (sym (moved (λ i. get_or xs i d) (λ i. get_or (swap xs a b) i d) a b i s))
    (h (place a b i) (place a b j) d (place_below a b i (length xs) p q i_in) (place_below a b j (length xs) p q j_in) (place_apart a b i j ne)))

pub AllPairs-permutation : {X : Type 0} (R : X → X → Type 0) (flip : (x y : X) → R x y → R y x) (xs ys : List X) → IsPermutation xs ys → AllPairs R xs → AllPairs R ys
AllPairs-permutation R flip xs ys p h i j d l q =
    IsPermutation-keeps xs (AnyTwo R) (any_two R flip xs h) (λ zs a b m n two. any_two_swapped R zs a b m n two) ys p i j d (omega arith) q (omega arith)

-- what holds of each element that a filter keeps
all_of_filter : {X : Type 0} (P : X → Type 0) (p : X → Bool) (xs : List X) → All P (filter p xs) → All (λ x. p x ≡ true → P x) xs
all_of_filter P p [] h = All-nil _
all_of_filter P p (x ∷ xs) h =
    elim (p x) as (λ b. p x ≡ b → All P (cond b (x ∷ filter p xs) (filter p xs)) → All (λ y. p y ≡ true → P y) (x ∷ xs)) [
      | true ↦ λ e k. All-cons (λ y. p y ≡ true → P y) x xs (λ f. All-head P x (filter p xs) k) (all_of_filter P p xs (All-tail P x (filter p xs) k))
      | false ↦ λ e k. All-cons (λ y. p y ≡ true → P y) x xs (λ f. absurd (cc)) (all_of_filter P p xs k)
    ] refl h

-- a relation of the elements that a filter keeps
pub pairs_of_filter : {X : Type 0} (R : X → X → Type 0) (p : X → Bool) (xs : List X) → AllPairs R (filter p xs) → AllPairs (λ x y. p x ≡ true → p y ≡ true → R x y) xs
pairs_of_filter R p [] h = λ i j d l q. absurd (omega arith)
pairs_of_filter R p (x ∷ xs) h =
    elim (p x) as (λ b. p x ≡ b → AllPairs R (cond b (x ∷ filter p xs) (filter p xs)) → AllPairs (λ x y. p x ≡ true → p y ≡ true → R x y) (x ∷ xs)) [
      | true ↦ λ e k.
          let first = all_of_filter (R x) p xs (λ i d l. k 0 (suc i) d (omega arith) (omega arith)) in
          AllPairs-cons (λ x y. p x ≡ true → p y ≡ true → R x y) x xs (λ i d l f. first i d l) (pairs_of_filter R p xs (λ i j d l q. k (suc i) (suc j) d (omega arith) (omega arith)))
      | false ↦ λ e k. AllPairs-cons (λ x y. p x ≡ true → p y ≡ true → R x y) x xs (λ i d l f. absurd (cc)) (pairs_of_filter R p xs k)
    ] refl h

-- pairs of headers by their indices
pairs_at : (file : List ℕ) (P : ProgramHeader → ProgramHeader → Type 0) → AllPairs P (headers_of file) → (i j : ℕ) → i < j → j < e_phnum file → P (header file i) (header file j)
pairs_at file P h i j l q =
    let d = header file 0 in
    let i_in : i < e_phnum file = omega arith in
    subst (λ x. P x (header file j)) (header_is file i d i_in)
    (subst (λ y. P (get_or (headers_of file) i d) y) (header_is file j d q) (h i j d l (omega (arith, length_headers file))))

pairs_from : (file : List ℕ) (P : ProgramHeader → ProgramHeader → Type 0) → ((i j : ℕ) → i < j → j < e_phnum file → P (header file i) (header file j)) → AllPairs P (headers_of file)
pairs_from file P h i j d l q =
    let j_in : j < e_phnum file = omega (arith, length_headers file) in
    let i_in : i < e_phnum file = omega arith in
    subst (λ x. P x (get_or (headers_of file) j d)) (sym (header_is file i d i_in))
    (subst (λ y. P (header file i) y) (sym (header_is file j d j_in)) (h i j l j_in))

pub covered_memory : (h : ProgramHeader) (a : ℕ) → Covers h a → has_memory h ≡ true
covered_memory h a c = and_from _ _ c.0 (lt-ltb 0 h.p_memsz (omega (arith, c.1, c.2)))

at_or_below : (a b : ℕ) → (a ≤ b) ⊎ (b < a)
at_or_below a b = grind arith

apart_unless : (g h : ProgramHeader) → has_memory g ≡ true → has_memory h ≡ true → ((a : ℕ) → Covers g a → Covers h a → ⊥) → IsApart g h
apart_unless g h m n none =
    let g_loads = and_parts (is_load g) (nat_lt 0 g.p_memsz) m in
    let h_loads = and_parts (is_load h) (nat_lt 0 h.p_memsz) n in
    let g_some : 0 < g.p_memsz = ltb-true 0 g.p_memsz g_loads.1 in
    let h_some : 0 < h.p_memsz = ltb-true 0 h.p_memsz h_loads.1 in
    elim (at_or_below (g.p_vaddr + g.p_memsz) h.p_vaddr) [
      | inl e ↦ inl e
      | inr k ↦ elim (at_or_below (h.p_vaddr + h.p_memsz) g.p_vaddr) [
        | inl e ↦ inr e
        | inr l ↦ absurd (none (max g.p_vaddr h.p_vaddr) (g_loads.0, omega arith, omega arith) (h_loads.0, omega arith, omega arith))
      ]
    ]

-- segments that are apart in the order of their addresses don't overlap
pub none_overlaps : (file : List ℕ) (sorted : List ProgramHeader) → Ascends (headers_of file) sorted → AllAdjacentBelow EndsBefore sorted (length sorted) → (i j : ℕ) → Fails file (Overlap i j) → ⊥
none_overlaps file sorted s next i j f =
    let behind : AllPairs IsApart sorted = λ k l d less q. inl (let e : (get_or sorted k d).p_vaddr + (get_or sorted k d).p_memsz ≤ (get_or sorted (k + 1) d).p_vaddr = next k d (omega arith) in let u : (get_or sorted (k + 1) d).p_vaddr ≤ (get_or sorted l d).p_vaddr = s.up (k + 1) l d (omega arith) q in omega arith) in
    let kept = AllPairs-permutation IsApart apart_sym sorted (filter has_memory (headers_of file)) (IsPermutation-sym _ _ s.same) behind in
    let apart = pairs_at file (λ g h. has_memory g ≡ true → has_memory h ≡ true → IsApart g h) (pairs_of_filter IsApart has_memory (headers_of file) kept) i j f.0 f.1 (covered_memory (header file i) f.2 f.3) (covered_memory (header file j) f.2 f.4) in
    elim apart [ inl e ↦ omega (arith, e, f.3.2, f.4.1) | inr e ↦ omega (arith, e, f.3.1, f.4.2) ]

-- segments that don't overlap are apart in the order of their addresses
pub sorted_apart : (file : List ℕ) (sorted : List ProgramHeader) → Ascends (headers_of file) sorted → ((i j : ℕ) → Fails file (Overlap i j) → ⊥) → AllPairs EndsBefore sorted
sorted_apart file sorted s none =
    let each : AllPairs (λ g h. has_memory g ≡ true → has_memory h ≡ true → IsApart g h) (headers_of file) = pairs_from file (λ g h. has_memory g ≡ true → has_memory h ≡ true → IsApart g h) (λ i j l q m n. apart_unless (header file i) (header file j) m n (λ a c d. none i j (l, q, a, c, d))) in
    let kept = AllPairs-filter (λ g h. has_memory g ≡ true → has_memory h ≡ true → IsApart g h) has_memory (headers_of file) each in
    let memory = filter_passes has_memory (headers_of file) in
    let apart : AllPairs IsApart (filter has_memory (headers_of file)) = λ i j d l q. kept i j d l q (memory i d (omega arith)) (memory j d q) in
    let moved = AllPairs-permutation IsApart apart_sym (filter has_memory (headers_of file)) sorted s.same apart in
    let all = All-permutation (λ h. has_memory h ≡ true) (filter has_memory (headers_of file)) sorted s.same memory in
    λ i j d l q. elim (moved i j d l q) [
      | inl e ↦ e
      | inr e ↦ let some : 0 < (get_or sorted j d).p_memsz = ltb-true 0 (get_or sorted j d).p_memsz (and_parts (is_load (get_or sorted j d)) (nat_lt 0 (get_or sorted j d).p_memsz) (all j d q)).1 in absurd (omega (arith, e, some, s.up i j d (omega arith) q))
    ]
