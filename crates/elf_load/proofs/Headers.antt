-- Headers by their index, and what a test of each of them finds.
use Rattle.std.proofs.Common.{◌≡◌, ℕ, ◌+◌, ◌<◌, ◌≤◌, ◌⊎◌, inl, inr, List, Bool, true, false, cond, not, ◌||◌, length, get_or, position, Some, None, refl, sym, ◌∙◌, ap, subst, arith, max}
use Rattle.std.proofs.lemmas.Bool.{ltb-false, lt-ltb, and_parts, and_from, ltb-true}
use Rattle.std.proofs.lemmas.List.FromFn.{length-map-range_with_len, get_or-map-range_with_len}
use Rattle.std.proofs.lemmas.List.Quantifiers.{position-Some}
use Rattle.std.proofs.lemmas.List.Sums.{prefix_len_passes}
use Rattle.std.proofs.lemmas.List.Folds.{Any-from_list_any, list_any_at}
use Rattle.std.specs.List.{position_or_len, list_any}
use Rattle.rv_model.specs.declared.machine.TheConstants.{INPUT_START, INPUT_LEN, OUTPUT_START, OUTPUT_LEN}
use Rattle.elf_load.specs.File.{e_phnum, header, headers_of, At}
use Rattle.elf_load.specs.Header.{Covers, IsInWindow}
use Rattle.elf_load.specs.Layout.{meets, overlaps, is_in_window}
use Rattle.elf_load.specs.declared.header.ProgramHeader.{ProgramHeader}

pub length_headers : (file : List ℕ) → length (headers_of file) ≡ e_phnum file
length_headers file = length-map-range_with_len (header file) 0 (e_phnum file)

pub header_is : (file : List ℕ) (i : ℕ) (d : ProgramHeader) → i < e_phnum file → get_or (headers_of file) i d ≡ header file i
header_is file i d h = get_or-map-range_with_len (header file) 0 (e_phnum file) i i d h (omega arith)

-- the header that `position` finds is the first that passes
pub found : (file : List ℕ) (hs : List ProgramHeader) (test : ProgramHeader → Bool) (i : ℕ) → hs ≡ headers_of file → Some i ≡ position test hs → At file test i × ((k : ℕ) → k < i → At file test k → ⊥)
found file hs test i all e =
    let at = position-Some test (headers_of file) i (header file i) (sym (e ∙ ap (position test) all)) in
    let inside : i < e_phnum file = subst (λ n. i < n) (length_headers file) at.0 in (
      (inside, ap test (sym (header_is file i (header file i) inside)) ∙ at.1),
      λ k less here. let no : test (header file k) ≡ false = ap test (sym (header_is file k (header file i) here.0)) ∙ at.2 k less in let yes : test (header file k) ≡ true = here.1 in cc,
    )

cond_none : (b : Bool) (n : ℕ) → cond b (Some n) None ≡ None → b ≡ false
cond_none true n e = cc
cond_none false n e = refl

not_true : (b : Bool) → not b ≡ true → b ≡ false
not_true true e = cc
not_true false e = refl

-- where it finds none, none passes
pub not_found : (file : List ℕ) (hs : List ProgramHeader) (test : ProgramHeader → Bool) → hs ≡ headers_of file → None ≡ position test hs → (k : ℕ) → At file test k → ⊥
not_found file hs test all e k here =
    let long : length (headers_of file) ≤ position_or_len test (headers_of file) = ltb-false _ _ (cond_none _ _ (sym (e ∙ ap (position test) all))) in
    let before : k < position_or_len test (headers_of file) = omega (arith, length_headers file, here.0) in
    let no : test (header file k) ≡ false = ap test (sym (header_is file k (header file k) here.0)) ∙ not_true _ (prefix_len_passes (λ h. not (test h)) (headers_of file) k (header file k) before) in
    let yes : test (header file k) ≡ true = here.1 in
    cc

-- what `any` finds
pub some_passes : (file : List ℕ) (test : ProgramHeader → Bool) → list_any test (headers_of file) ≡ true → (i : ℕ) × At file test i
some_passes file test e =
    let at = Any-from_list_any test (headers_of file) e in
    let inside : at.0 < e_phnum file = omega (arith, length_headers file, at.2) in
    (at.0, (inside, ap test (sym (header_is file at.0 at.1 inside) ∙ at.3) ∙ at.4))

pub none_passes : (file : List ℕ) (test : ProgramHeader → Bool) → list_any test (headers_of file) ≡ false → (i : ℕ) → At file test i → ⊥
none_passes file test e i here =
    let inside : i < length (headers_of file) = omega (arith, length_headers file, here.0) in
    let yes : list_any test (headers_of file) ≡ true = list_any_at test (headers_of file) i (header file i) inside (ap test (header_is file i (header file i) here.0) ∙ here.1) in
    cc

-- ranges that share an address, as a test
pub meets_at : (a n b m x : ℕ) → a ≤ x → x < a + n → b ≤ x → x < b + m → meets a n b m ≡ true
meets_at a n b m x p q r s =
    and_from _ _ (and_from _ _ (and_from _ _ (lt-ltb 0 n (omega arith)) (lt-ltb 0 m (omega arith))) (lt-ltb a (b + m) (omega arith))) (lt-ltb b (a + n) (omega arith))

pub shared : (a n b m : ℕ) → meets a n b m ≡ true → (x : ℕ) × (a ≤ x) × (x < a + n) × (b ≤ x) × (x < b + m)
shared a n b m h =
    let all = and_parts _ _ h in
    let front = and_parts _ _ all.0 in
    let some = and_parts _ _ front.0 in
    let n_some : 0 < n = ltb-true 0 n some.0 in
    let m_some : 0 < m = ltb-true 0 m some.1 in
    let a_below : a < b + m = ltb-true a (b + m) front.1 in
    let b_below : b < a + n = ltb-true b (a + n) all.1 in
    (max a b, omega arith, omega arith, omega arith, omega arith)

pub overlaps_at : (g h : ProgramHeader) (a : ℕ) → Covers g a → Covers h a → overlaps g h ≡ true
overlaps_at g h a p q =
    and_from _ _ (and_from _ _ p.0 q.0) (meets_at g.p_vaddr g.p_memsz h.p_vaddr h.p_memsz a p.1 p.2 q.1 q.2)

pub overlap_at : (g h : ProgramHeader) → overlaps g h ≡ true → (a : ℕ) × Covers g a × Covers h a
overlap_at g h e =
    let all = and_parts _ _ e in
    let loads = and_parts _ _ all.0 in
    let x = shared g.p_vaddr g.p_memsz h.p_vaddr h.p_memsz all.1 in
    (x.0, (loads.0, x.1, x.2), (loads.1, x.3, x.4))

or_cases : (x y : Bool) → (x || y) ≡ true → (x ≡ true) ⊎ (y ≡ true)
or_cases true y e = inl refl
or_cases false y e = inr e

or_from : (x y : Bool) → (x ≡ true) ⊎ (y ≡ true) → (x || y) ≡ true
or_from true y h = refl
or_from false y h = elim h [ inl e ↦ cc | inr e ↦ e ]

pub in_window_at : (h : ProgramHeader) (a : ℕ) → Covers h a → IsInWindow a → is_in_window h ≡ true
in_window_at h a p w =
    and_from _ _ p.0 (or_from _ _ (elim w [
      | inl i ↦ inl (meets_at h.p_vaddr h.p_memsz INPUT_START INPUT_LEN a p.1 p.2 i.0 i.1)
      | inr o ↦ inr (meets_at h.p_vaddr h.p_memsz OUTPUT_START OUTPUT_LEN a p.1 p.2 o.0 o.1)
    ]))

pub window_at : (h : ProgramHeader) → is_in_window h ≡ true → (a : ℕ) × Covers h a × IsInWindow a
window_at h e =
    let all = and_parts _ _ e in
    elim (or_cases _ _ all.1) [
      | inl i ↦ let x = shared h.p_vaddr h.p_memsz INPUT_START INPUT_LEN i in (x.0, (all.0, x.1, x.2), inl (x.3, x.4))
      | inr o ↦ let x = shared h.p_vaddr h.p_memsz OUTPUT_START OUTPUT_LEN o in (x.0, (all.0, x.1, x.2), inr (x.3, x.4))
    ]
