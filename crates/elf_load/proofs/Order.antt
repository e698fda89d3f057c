-- The order of the tests: what follows once the first of them are known to pass.
use Rattle.std.proofs.Common.{◌≡◌, ℕ, ◌+◌, ◌<◌, ◌-◌, ◌^◌, ◌⊎◌, inl, inr, List, [], ◌∷◌, length, get_or, refl, ◌∙◌, ap, subst, arith, min}
use Rattle.elf_load.specs.File.{e_type, e_machine, e_entry, headers_of}
use Rattle.elf_load.specs.Refusal.{Fails, Refused, place, index, second_index, data_size}
use Rattle.elf_load.specs.Progress.{PassesFirst}
use Rattle.elf_load.specs.declared.error.ElfErr.{ElfErr}
use Rattle.elf_load.specs.declared.error.ElfErr.TheVariants.{Short, BadMagic, NotElf64Le, NotExec, NotRiscv, BadPhdrs, NotStatic, FilePart, OutOfRange, Overlap, WindowClash, TooMuchData, EntryOutside, NoMemory}

-- the refusal of the test with this place, at these indices
abbrev pub refusal : List ℕ → ℕ → ℕ → ℕ → ElfErr
refusal file i j n =
    get_or (Short (length file) ∷ BadMagic ∷ NotElf64Le ∷ NotExec (e_type file) ∷ NotRiscv (e_machine file)
    ∷ BadPhdrs i ∷ NotStatic i ∷ FilePart i ∷ OutOfRange i ∷ Overlap i j ∷ WindowClash i
    ∷ TooMuchData (min (data_size (headers_of file)) (2 ^ 64 - 1)) ∷ EntryOutside (e_entry file) ∷ []) n NoMemory

-- a failing test fixes all else that its refusal says
pub form : (file : List ℕ) (e : ElfErr) → Fails file e → e ≡ refusal file (index e) (second_index e) (place e)
form file (Short len) h = ap Short h.0
form file BadMagic h = refl
form file NotElf64Le h = refl
form file (NotExec kind) h = ap NotExec h.0
form file (NotRiscv machine) h = ap NotRiscv h.0
form file (BadPhdrs i) h = refl
form file (NotStatic i) h = refl
form file (FilePart i) h = refl
form file (OutOfRange i) h = refl
form file (Overlap i j) h = refl
form file (WindowClash i) h = refl
form file (TooMuchData bytes) h = ap TooMuchData h.0
form file (EntryOutside entry) h = ap EntryOutside h.0
form file NoMemory h = absurd h

-- the same, where the place is known
pub form_at : (file : List ℕ) (e : ElfErr) (n : ℕ) → place e ≡ n → Fails file e → e ≡ refusal file (index e) (second_index e) n
form_at file e n p h = form file e h ∙ ap (refusal file (index e) (second_index e)) p

-- one more test passes
pub passes_more : (file : List ℕ) (n : ℕ) → PassesFirst n file → ((i j : ℕ) → Fails file (refusal file i j n) → ⊥) → PassesFirst (n + 1) file
passes_more file n before here e p h =
    let cases : (place e < n) ⊎ (place e ≡ n) = grind arith in
    elim cases [
      | inl less ↦ before e less h
      | inr same ↦ here (index e) (second_index e) (subst (Fails file) (form_at file e n same h) h)
    ]

-- the indices i, j come before k, l
abbrev pub Lesser : ℕ → ℕ → ℕ → ℕ → Type 0
Lesser i j k l = (i < k) ⊎ ((i ≡ k) × (j < l))

-- the first test that fails, at its least indices
pub refused_at : (file : List ℕ) (n : ℕ) (e : ElfErr) → PassesFirst n file → place e ≡ n → Fails file e → ((i j : ℕ) → Lesser i j (index e) (second_index e) → Fails file (refusal file i j n) → ⊥) → Refused file e
refused_at file n e before p fails here = record {
  fails = fails;
  first = λ f b h. elim b [
    | inl less ↦ before f (subst (λ m. place f < m) p less) h
    | inr same ↦ here (index f) (second_index f) same.1 (subst (Fails file) (form_at file f n (same.0 ∙ p) h) h)
  ];
}

-- the same for a test with one index
pub refused_first : (file : List ℕ) (n : ℕ) (e : ElfErr) → PassesFirst n file → place e ≡ n → second_index e ≡ 0 → Fails file e → ((i j : ℕ) → i < index e → Fails file (refusal file i j n) → ⊥) → Refused file e
refused_first file n e before p q fails here =
    refused_at file n e before p fails (λ i j l h. elim l [ inl a ↦ here i j a h | inr a ↦ let b : j < second_index e = a.1 in absurd (omega arith) ])

-- and for one of the whole file
pub refused : (file : List ℕ) (n : ℕ) (e : ElfErr) → PassesFirst n file → place e ≡ n → index e ≡ 0 → second_index e ≡ 0 → Fails file e → Refused file e
refused file n e before p q r fails = refused_first file n e before p r fails (λ i j a _. absurd (omega arith))

-- the first thirteen tests are all
pub passes_all : (file : List ℕ) → PassesFirst 13 file → (e : ElfErr) → Fails file e → ⊥
passes_all file h (Short len) f = h (Short len) (omega arith) f
passes_all file h BadMagic f = h BadMagic (omega arith) f
passes_all file h NotElf64Le f = h NotElf64Le (omega arith) f
passes_all file h (NotExec kind) f = h (NotExec kind) (omega arith) f
passes_all file h (NotRiscv machine) f = h (NotRiscv machine) (omega arith) f
passes_all file h (BadPhdrs i) f = h (BadPhdrs i) (omega arith) f
passes_all file h (NotStatic i) f = h (NotStatic i) (omega arith) f
passes_all file h (FilePart i) f = h (FilePart i) (omega arith) f
passes_all file h (OutOfRange i) f = h (OutOfRange i) (omega arith) f
passes_all file h (Overlap i j) f = h (Overlap i j) (omega arith) f
passes_all file h (WindowClash i) f = h (WindowClash i) (omega arith) f
passes_all file h (TooMuchData bytes) f = h (TooMuchData bytes) (omega arith) f
passes_all file h (EntryOutside entry) f = h (EntryOutside entry) (omega arith) f
passes_all file h NoMemory f = f

-- nothing is before the first test
pub passes_none : (file : List ℕ) → PassesFirst 0 file
passes_none file e p h = absurd (omega arith)
