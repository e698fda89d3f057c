-- Each file has an image or a refusal: the tests can be decided one after the other.
use Rattle.std.proofs.Common.{◌≡◌, ◌≢◌, ℕ, zero, suc, ◌+◌, ◌-◌, ◌<◌, ◌≤◌, ◌%◌, ◌^◌, ◌⊎◌, inl, inr, List, [], ◌∷◌, Bool, true, false, nat_lt, nat_eq, length, get_or, filter, min, slice_index, refl, subst, arith}
use Rattle.std.specs.List.{starts_with, insert, prefix_len}
use Rattle.std.specs.List.Sorted.{IsPermutation, IsNonDecreasingBy}
use Rattle.std.proofs.lemmas.Bool.{ltb-true, ltb-false}
use Rattle.std.proofs.lemmas.List.Sums.{prefix_len_passes, prefix_len_stops, prefix_len-le-length}
use Rattle.std.proofs.lemmas.List.Sorted.{IsPermutation-refl, IsPermutation-cons, IsPermutation-trans, IsPermutation-insert, IsNonDecreasingBy-insert, IsNonDecreasingBy-short}
use Rattle.rv_model.specs.Image.{Img}
use Rattle.rv_model.specs.declared.machine.TheConstants.{MOST_LOADED}
use Rattle.elf_load.specs.File.{e_type, e_machine, e_entry, e_phentsize, e_phnum, header_offset, header, headers_of, At}
use Rattle.elf_load.specs.Header.{is_dynamic, lacks_bytes, is_out_of_range, holds_word, has_memory}
use Rattle.elf_load.specs.Layout.{is_in_window, overlaps}
use Rattle.elf_load.specs.Loads.{Loads}
use Rattle.elf_load.specs.Refusal.{Fails, Refused, HasWord, data_size, place, index, second_index}
use Rattle.elf_load.specs.Progress.{PassesFirst}
use Rattle.elf_load.specs.declared.header.ProgramHeader.{ProgramHeader}
use Rattle.elf_load.specs.declared.error.ElfErr.{ElfErr}
use Rattle.elf_load.specs.declared.error.ElfErr.TheVariants.{Short, BadMagic, NotElf64Le, NotExec, NotRiscv, BadPhdrs, NotStatic, FilePart, OutOfRange, Overlap, WindowClash, TooMuchData, EntryOutside}
use Rattle.elf_load.proofs.Headers.{overlaps_at, overlap_at, in_window_at, window_at}
use Rattle.elf_load.proofs.Order.{refusal, refused, refused_first, refused_at, passes_more, passes_none, passes_all}
use Rattle.elf_load.proofs.Placing.{image, loads}

abbrev Decided : Type 0 → Type 0
Decided P = P ⊎ (P → ⊥)

both : (P Q : Type 0) → Decided P → Decided Q → Decided (P × Q)
both P Q p q = elim p [ inr never ↦ inr (λ h. never h.0) | inl a ↦ elim q [ inl b ↦ inl (a, b) | inr never ↦ inr (λ h. never h.1) ] ]

either : (P Q : Type 0) → Decided P → Decided Q → Decided (P ⊎ Q)
either P Q p q = elim p [ inl a ↦ inl (inl a) | inr never ↦ elim q [ inl b ↦ inl (inr b) | inr nor ↦ inr (λ h. elim h [ inl a ↦ never a | inr b ↦ nor b ]) ] ]

less : (a b : ℕ) → Decided (a < b)
less a b = grind arith

same : (a b : ℕ) → Decided (a ≡ b)
same a b = grind arith

differs : (a b : ℕ) → Decided (a ≢ b)
differs a b = elim (same a b) [ inl e ↦ inr (λ ne. ne e) | inr ne ↦ inl ne ]

holds : (b : Bool) → Decided (b ≡ true)
holds true = inl refl
holds false = inr (λ e. cc)

fails : (b : Bool) → Decided (b ≡ false)
fails true = inr (λ e. cc)
fails false = inl refl

-- the first number below n of which P holds, if there is one
record First (P : ℕ → Type 0) (i : ℕ) : Type 0 where
  pub here : P i
  pub before : (k : ℕ) → k < i → P k → ⊥

first_below : (P : ℕ → Type 0) → ((i : ℕ) → Decided (P i)) → (n : ℕ) → ((i : ℕ) × (i < n) × First P i) ⊎ ((k : ℕ) → k < n → P k → ⊥)
first_below P decide zero = inr (λ k l h. omega arith)
first_below P decide (suc n) =
    elim (first_below P decide n) [
      | inl some ↦ inl (some.0, omega (arith, some.1), some.2)
      | inr none ↦ elim (decide n) [
        | inl here ↦ inl (n, omega arith, record { here = here; before = none })
        | inr never ↦ inr (λ k l h. elim (less k n) [ inl m ↦ none k m h | inr stop ↦ never (let e : k ≡ n = omega arith in subst P e h) ])
      ]
    ]

-- the first number of which P holds, where all of which P holds are below n
some_number : (P : ℕ → Type 0) → ((i : ℕ) → Decided (P i)) → (n : ℕ) → ((i : ℕ) → P i → i < n) → ((i : ℕ) × First P i) ⊎ ((k : ℕ) → P k → ⊥)
some_number P decide n bound =
    elim (first_below P decide n) [ inl some ↦ inl (some.0, some.2) | inr none ↦ inr (λ k h. none k (bound k h) h) ]

at_header : (file : List ℕ) (test : ProgramHeader → Bool) (i : ℕ) → Decided (At file test i)
at_header file test i = both (i < e_phnum file) (test (header file i) ≡ true) (less i (e_phnum file)) (holds (test (header file i)))

-- two segments that overlap
two_overlap : (file : List ℕ) (i j : ℕ) → Decided (Fails file (Overlap i j))
two_overlap file i j =
    elim (both (i < j) (j < e_phnum file) (less i j) (less j (e_phnum file))) [
      | inr never ↦ inr (λ f. never (f.0, f.1))
      | inl in_order ↦ elim (holds (overlaps (header file i) (header file j))) [
        | inl e ↦ let a = overlap_at (header file i) (header file j) e in inl (in_order.0, in_order.1, a.0, a.1, a.2)
        | inr never ↦ inr (λ f. never (overlaps_at (header file i) (header file j) f.2 f.3 f.4))
      ]
    ]

-- a header whose segment overlaps that of a later one, and the first such
Partner : List ℕ → ℕ → Type 0
Partner file i = (j : ℕ) × First (λ j. Fails file (Overlap i j)) j

partner : (file : List ℕ) (i : ℕ) → Decided (Partner file i)
unfolding Partner
partner file i =
    elim (some_number (λ j. Fails file (Overlap i j)) (two_overlap file i) (e_phnum file) (λ j f. f.1)) [
      | inl some ↦ inl some
      | inr none ↦ inr (λ p. none p.0 p.1.here)
    ]

in_window : (file : List ℕ) (i : ℕ) → Decided (Fails file (WindowClash i))
in_window file i =
    elim (at_header file is_in_window i) [
      | inl at ↦ let a = window_at (header file i) at.1 in inl (at.0, a.0, a.1, a.2)
      | inr never ↦ inr (λ f. never (f.0, in_window_at (header file i) f.1 f.2 f.3))
    ]

has_word : (file : List ℕ) (a : ℕ) → Decided (HasWord file a)
has_word file a =
    elim (same (a % 4) 0) [
      | inr never ↦ inr (λ w. never w.0)
      | inl e ↦ elim (some_number (At file (holds_word a)) (at_header file (holds_word a)) (e_phnum file) (λ i at. at.0)) [
        | inl some ↦ inl (e, some.0, some.1.here)
        | inr none ↦ inr (λ w. none w.1 w.2)
      ]
    ]

-- the file is refused, or passes the first n tests
abbrev Come : List ℕ → ℕ → Type 0
Come file n = ((e : ElfErr) × Refused file e) ⊎ PassesFirst n file

-- a test of the whole file
whole : (file : List ℕ) (n : ℕ) (e : ElfErr) → place e ≡ n → index e ≡ 0 → second_index e ≡ 0 → ((i j : ℕ) → Fails file (refusal file i j n) → Fails file e) → Decided (Fails file e) → Come file n → Come file (n + 1)
whole file n e p q r form decide come =
    elim come [
      | inl no_more ↦ inl no_more
      | inr before ↦ elim decide [
        | inl f ↦ inl (e, refused file n e before p q r f)
        | inr never ↦ inr (passes_more file n before (λ i j f. never (form i j f)))
      ]
    ]

-- a test of each header
each : (file : List ℕ) (n : ℕ) (c : ℕ → ElfErr) → ((i : ℕ) → place (c i) ≡ n) → ((i : ℕ) → index (c i) ≡ i) → ((i : ℕ) → second_index (c i) ≡ 0) → ((i j : ℕ) → Fails file (refusal file i j n) → Fails file (c i)) → ((i : ℕ) → Fails file (c i) → i < e_phnum file) → ((i : ℕ) → Decided (Fails file (c i))) → Come file n → Come file (n + 1)
each file n c p q r form bound decide come =
    elim come [
      | inl no_more ↦ inl no_more
      | inr before ↦ elim (some_number (λ i. Fails file (c i)) decide (e_phnum file) bound) [
        | inl some ↦ inl (
          c some.0,
          refused_first file n (c some.0) before (p some.0) (r some.0) some.1.here
              (λ i j l f. some.1.before i (let e : index (c some.0) ≡ some.0 = q some.0 in omega arith) (form i j f)),
        )
        | inr none ↦ inr (passes_more file n before (λ i j f. none i (form i j f)))
      ]
    ]

overlapping : (file : List ℕ) → Come file 9 → Come file 10
unfolding Partner
overlapping file come =
    elim come [
      | inl no_more ↦ inl no_more
      | inr before ↦ elim (some_number (Partner file) (partner file) (e_phnum file) (λ i p. omega (arith, p.1.here.0, p.1.here.1))) [
        | inl some ↦
            let i = some.0 in
            let j = some.1.here.0 in
            let first = some.1.here.1 in
            inl (
              Overlap i j,
              refused_at file 9 (Overlap i j) before refl first.here (λ k l lesser f. elim lesser [
                | inl m ↦ elim (partner file k) [ inl p ↦ some.1.before k m p | inr never ↦ elim (some_number (λ j. Fails file (Overlap k j)) (two_overlap file k) (e_phnum file) (λ j f. f.1)) [ inl p ↦ never p | inr none ↦ none l f ] ]
                | inr m ↦ first.before l m.1 (subst (λ x. Fails file (Overlap x l)) m.0 f)
              ]),
            )
        | inr none ↦ inr (passes_more file 9 before (λ i j f. elim (some_number (λ j. Fails file (Overlap i j)) (two_overlap file i) (e_phnum file) (λ j f. f.1)) [ inl p ↦ none i p | inr never ↦ never j f ]))
      ]
    ]

-- headers in ascending order of address
placed_in : (x : ProgramHeader) (hs : List ProgramHeader) → IsNonDecreasingBy (λ h. h.p_vaddr) hs → (sorted : List ProgramHeader) × IsPermutation (x ∷ hs) sorted × IsNonDecreasingBy (λ h. h.p_vaddr) sorted
placed_in x hs up =
    let low : ProgramHeader → Bool = λ h. nat_lt h.p_vaddr x.p_vaddr in
    let i = prefix_len low hs in (
      insert hs i x,
      IsPermutation-insert hs i x,
      IsNonDecreasingBy-insert (λ h. h.p_vaddr) hs i x up (prefix_len-le-length low hs)
          (λ k d l. let under : (get_or hs k d).p_vaddr < x.p_vaddr = ltb-true (get_or hs k d).p_vaddr x.p_vaddr (prefix_len_passes low hs k d l) in omega arith)
          (λ k d l q. let inside : i < length hs = omega arith in let first : x.p_vaddr ≤ (get_or hs i d).p_vaddr = ltb-false (get_or hs i d).p_vaddr x.p_vaddr (prefix_len_stops low hs d inside) in omega (arith, first, up i k d l q)),
    )

pub in_order : (hs : List ProgramHeader) → (sorted : List ProgramHeader) × IsPermutation hs sorted × IsNonDecreasingBy (λ h. h.p_vaddr) sorted
in_order [] = ([], IsPermutation-refl [], IsNonDecreasingBy-short (λ h. h.p_vaddr) [] (omega arith))
in_order (x ∷ hs) =
    let rest = in_order hs in
    let more = placed_in x rest.0 rest.2 in
    (more.0, IsPermutation-trans (x ∷ hs) (x ∷ rest.0) more.0 (IsPermutation-cons x hs rest.0 rest.1) more.1, more.2)

-- the tests in their order
five : (file : List ℕ) → Come file 5
five file =
    let c0 : Come file 0 = inr (passes_none file) in
    let c1 : Come file 1 = whole file 0 (Short (length file)) refl refl refl (λ i j f. f) (both (length file ≡ length file) (length file < 64) (inl refl) (less (length file) 64)) c0 in
    let c2 : Come file 2 = whole file 1 BadMagic refl refl refl (λ i j f. f) (fails (starts_with nat_eq file (0x7F ∷ 0x45 ∷ 0x4C ∷ 0x46 ∷ []))) c1 in
    let c3 : Come file 3 = whole file 2 NotElf64Le refl refl refl (λ i j f. f)
    (either (slice_index file 4 ≢ 2) ((slice_index file 5 ≢ 1) ⊎ (slice_index file 6 ≢ 1)) (differs (slice_index file 4) 2) (either (slice_index file 5 ≢ 1) (slice_index file 6 ≢ 1) (differs (slice_index file 5) 1) (differs (slice_index file 6) 1))) c2 in
    let c4 : Come file 4 = whole file 3 (NotExec (e_type file)) refl refl refl (λ i j f. f) (both (e_type file ≡ e_type file) (e_type file ≢ 2) (inl refl) (differs (e_type file) 2)) c3 in
    whole file 4 (NotRiscv (e_machine file)) refl refl refl (λ i j f. f) (both (e_machine file ≡ e_machine file) (e_machine file ≢ 243) (inl refl) (differs (e_machine file) 243)) c4

eleven : (file : List ℕ) → Come file 11
eleven file =
    let c6 : Come file 6 = each file 5 BadPhdrs (λ i. refl) (λ i. refl) (λ i. refl) (λ i j f. f) (λ i f. f.0)
    (λ i. both (i < e_phnum file) ((e_phentsize file ≢ 56) ⊎ (length file < header_offset file i + 56)) (less i (e_phnum file)) (either (e_phentsize file ≢ 56) (length file < header_offset file i + 56) (differs (e_phentsize file) 56) (less (length file) (header_offset file i + 56)))) (five file) in
    let c7 : Come file 7 = each file 6 NotStatic (λ i. refl) (λ i. refl) (λ i. refl) (λ i j f. f) (λ i f. f.0) (at_header file is_dynamic) c6 in
    let c8 : Come file 8 = each file 7 FilePart (λ i. refl) (λ i. refl) (λ i. refl) (λ i j f. f) (λ i f. f.0) (at_header file (lacks_bytes (length file))) c7 in
    let c9 : Come file 9 = each file 8 OutOfRange (λ i. refl) (λ i. refl) (λ i. refl) (λ i j f. f) (λ i f. f.0) (at_header file is_out_of_range) c8 in
    each file 10 WindowClash (λ i. refl) (λ i. refl) (λ i. refl) (λ i j f. f) (λ i f. f.0) (in_window file) (overlapping file c9)

thirteen : (file : List ℕ) → Come file 13
thirteen file =
    let size : ℕ = min (data_size (headers_of file)) (2 ^ 64 - 1) in
    let c12 : Come file 12 = whole file 11 (TooMuchData size) refl refl refl (λ i j f. f) (both (size ≡ size) (MOST_LOADED < size) (inl refl) (less MOST_LOADED size)) (eleven file) in
    let entry : ℕ = e_entry file in
    let no_word : Decided (HasWord file entry → ⊥) = elim (has_word file entry) [ inl w ↦ inr (λ never. never w) | inr never ↦ inl never ] in
    whole file 12 (EntryOutside entry) refl refl refl (λ i j f. f) (both (entry ≡ entry) (HasWord file entry → ⊥) (inl refl) no_word) c12

pub some_answer : (file input : List ℕ) → ((image : Img) × Loads file input image) ⊎ ((e : ElfErr) × Refused file e)
some_answer file input =
    elim (thirteen file) [
      | inl refused ↦ inr refused
      | inr passed ↦
          let sorted = in_order (filter has_memory (headers_of file)) in
          inl (image file input sorted.0, loads file input sorted.0 (passes_all file passed) (record { same = sorted.1; up = sorted.2 }))
    ]
