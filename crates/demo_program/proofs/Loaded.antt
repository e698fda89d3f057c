-- The least file of some words loads, as one segment.
use Rattle.std.proofs.Common.{◌≡◌, ◌-◌, inl, inr, ◌+◌, ◌*◌, ◌^◌, ◌<◌, ◌≤◌, ℕ, zero, suc, Bool, true, false, nat_eq, min, List, [], ◌∷◌, length, take, drop, slice_index, Contains, refl, ap, sym, subst, ◌∙◌, arith}
use Rattle.std.specs.List.{flat_map, starts_with}
use Rattle.std.specs.Int.{to_le_bytes, w64}
use Rattle.std.proofs.lemmas.Bool.Decides.{nat_tests}
use Rattle.std.proofs.lemmas.List.{take_all}
use Rattle.std.proofs.lemmas.Nat.{from_le_bytes-to_le_bytes_8}
use Rattle.byteorder.specs.Endian.{little_number}
use Rattle.rv_model.specs.Image.{Seg}
use Rattle.elf_load.specs.File.{u16_at, u32_at, u64_at, header_at, header, headers_of, e_type, e_machine, e_entry, e_phoff, e_phentsize, e_phnum, At}
use Rattle.elf_load.specs.Header.{is_dynamic, lacks_bytes, is_out_of_range, has_memory, holds_word}
use Rattle.elf_load.specs.Refusal.{Fails, HasWord, data_size}
use Rattle.elf_load.specs.Loads.{segment, Loads}
use Rattle.elf_load.specs.declared.header.ProgramHeader.{ProgramHeader}
use Rattle.elf_load.specs.declared.error.ElfErr.{ElfErr}
use Rattle.elf_load.specs.declared.error.ElfErr.TheVariants.{Short, BadMagic, NotElf64Le, NotExec, NotRiscv, BadPhdrs, NotStatic, FilePart, OutOfRange, Overlap, WindowClash, TooMuchData, EntryOutside, NoMemory}
use Rattle.demo_program.specs.Tiny.{word, start, file_header, program_header, tiny}
use Rattle.demo_program.proofs.Fetch.{seg, image_of}

-- how many words a file may have here
abbrev pub IsCount : ℕ → Type 0
IsCount n = (1 ≤ n) × (n < 2 ^ 20)

length_words : (words : List ℕ) → length (flat_map word words) ≡ 4 * length words
length_words [] = refl
length_words (w ∷ words) = omega (arith, length_words words)

length_is : (words : List ℕ) → length (tiny words) ≡ 120 + 4 * length words
unfolding tiny file_header program_header
length_is words = let e : length (flat_map word words) ≡ 4 * length words = length_words words in omega arith

magic_is : (words : List ℕ) → starts_with nat_eq (tiny words) (0x7F ∷ 0x45 ∷ 0x4C ∷ 0x46 ∷ []) ≡ true
unfolding tiny file_header program_header
magic_is words = refl

class_is : (words : List ℕ) → slice_index (tiny words) 4 ≡ 2
unfolding tiny file_header program_header
class_is words = refl

data_is : (words : List ℕ) → slice_index (tiny words) 5 ≡ 1
unfolding tiny file_header program_header
data_is words = refl

version_is : (words : List ℕ) → slice_index (tiny words) 6 ≡ 1
unfolding tiny file_header program_header
version_is words = refl

type_is : (words : List ℕ) → e_type (tiny words) ≡ 2
unfolding tiny file_header program_header u16_at
type_is words = refl

machine_is : (words : List ℕ) → e_machine (tiny words) ≡ 243
unfolding tiny file_header program_header u16_at
machine_is words = refl

entry_is : (words : List ℕ) → e_entry (tiny words) ≡ start
unfolding tiny file_header program_header u64_at
entry_is words = refl

phoff_is : (words : List ℕ) → e_phoff (tiny words) ≡ 64
unfolding tiny file_header program_header u64_at
phoff_is words = refl

phentsize_is : (words : List ℕ) → e_phentsize (tiny words) ≡ 56
unfolding tiny file_header program_header u16_at
phentsize_is words = refl

phnum_is : (words : List ℕ) → e_phnum (tiny words) ≡ 1
unfolding tiny file_header program_header u16_at
phnum_is words = refl

-- the one program header
abbrev head : ℕ → ProgramHeader
head n = record {
  p_type = 1;
  p_flags = 5;
  p_offset = 120;
  p_vaddr = start;
  p_filesz = n;
  p_memsz = n;
}

read_back : (n : ℕ) → n < 2 ^ 64 → little_number 8 (to_le_bytes w64 n) ≡ n
read_back n h = omega (arith, from_le_bytes-to_le_bytes_8 n h)

header_is : (words : List ℕ) → IsCount (length words) → header (tiny words) 0 ≡ head (4 * length words)
unfolding tiny file_header program_header u16_at u32_at u64_at header_at
header_is words few = ap head (read_back (4 * length words) (omega arith))

-- what a test of the one header says
tested : (words : List ℕ) (test : ProgramHeader → Bool) (i : ℕ) → IsCount (length words) → At (tiny words) test i → test (head (4 * length words)) ≡ true
tested words test i few at =
    let none : 0 ≡ i = omega (arith, at.0, phnum_is words) in
    let own : test (header (tiny words) 0) ≡ true = subst (λ (k : ℕ). test (header (tiny words) k) ≡ true) (sym none) at.1 in
    sym (ap test (header_is words few)) ∙ own

both_ways : (b : Bool) → b ≡ true → b ≡ false → ⊥
both_ways b is isnt = let clash : true ≡ false = sym is ∙ isnt in cc

whole : (n : ℕ) → lacks_bytes (120 + n) (head n) ≡ false
whole n = grind (arith, nat_tests)

in_memory : (n : ℕ) → n < 2 ^ 22 → is_out_of_range (head n) ≡ false
in_memory n few = grind (arith, nat_tests)

some_memory : (n : ℕ) → 4 ≤ n → has_memory (head n) ≡ true
some_memory n few = grind (arith, nat_tests)

first_word : (n : ℕ) → 4 ≤ n → holds_word start (head n) ≡ true
first_word n few = grind (arith, nat_tests)

-- the test of index 0
at_first : (words : List ℕ) (test : ProgramHeader → Bool) → IsCount (length words) → test (head (4 * length words)) ≡ true → At (tiny words) test 0
at_first words test few passing = (omega (arith, phnum_is words), ap test (header_is words few) ∙ passing)

has_word : (words : List ℕ) → IsCount (length words) → HasWord (tiny words) start
has_word words few = (refl, 0, at_first words (holds_word start) few (first_word (4 * length words) (omega arith)))

covers_is : (words : List ℕ) (i : ℕ) → IsCount (length words) → i < e_phnum (tiny words) → header (tiny words) i ≡ head (4 * length words)
covers_is words i few below =
    let none : 0 ≡ i = omega (arith, phnum_is words) in
    subst (λ (k : ℕ). header (tiny words) k ≡ head (4 * length words)) none (header_is words few)

data_size_is : (words : List ℕ) → IsCount (length words) → data_size (headers_of (tiny words)) ≡ 4 * length words
unfolding tiny file_header program_header u16_at u32_at u64_at header_at
data_size_is words few = ap (λ (h : ProgramHeader). data_size (h ∷ [])) (header_is words few) ∙ omega arith

-- no test fails
pub passes : (words : List ℕ) → IsCount (length words) → (e : ElfErr) → Fails (tiny words) e → ⊥
passes words few (Short len) fails = omega (arith, length_is words)
passes words few BadMagic fails = both_ways _ (magic_is words) fails
passes words few NotElf64Le fails = elim fails [
  | inl other ↦ other (class_is words)
  | inr more ↦ elim more [
    | inl other ↦ other (data_is words)
    | inr other ↦ other (version_is words)
  ]
]
passes words few (NotExec kind) fails = fails.1 (fails.0 ∙ type_is words)
passes words few (NotRiscv machine) fails = fails.1 (fails.0 ∙ machine_is words)
passes words few (BadPhdrs i) fails = elim fails.1 [
  | inl other ↦ other (phentsize_is words)
  | inr short ↦ omega (arith, fails.0, phnum_is words, phoff_is words, length_is words)
]
passes words few (NotStatic i) fails = both_ways _ (tested words is_dynamic i few fails) refl
passes words few (FilePart i) fails =
    both_ways _ (tested words (lacks_bytes (length (tiny words))) i few fails)
    (ap (λ (n : ℕ). lacks_bytes n (head (4 * length words))) (length_is words) ∙ whole (4 * length words))
passes words few (OutOfRange i) fails = both_ways _ (tested words is_out_of_range i few fails) (in_memory (4 * length words) (omega arith))
passes words few (Overlap i j) fails = omega (arith, fails.0, fails.1, phnum_is words)
passes words few (WindowClash i) (below, a, covers, window) =
    let own = rw (covers_is words i few below) at covers in
    elim window [
      | inl input ↦ omega arith
      | inr short ↦ omega arith
    ]
passes words few (TooMuchData bytes) fails =
    let size : bytes ≡ min (4 * length words) (2 ^ 64 - 1) = fails.0 ∙ ap (λ (n : ℕ). min n (2 ^ 64 - 1)) (data_size_is words few) in
    omega (arith, size, fails.1)
passes words few (EntryOutside entry) fails =
    fails.1 (subst (HasWord (tiny words)) (sym (fails.0 ∙ entry_is words)) (has_word words few))
passes words few NoMemory fails = fails

-- the segment
bytes_is : (words : List ℕ) → take (4 * length words) (drop 120 (tiny words)) ≡ flat_map word words
unfolding tiny file_header program_header
bytes_is words = take_all (4 * length words) (flat_map word words) (omega (arith, length_words words))

segment_is : (words : List ℕ) → IsCount (length words) → segment (tiny words) (header (tiny words) 0) ≡ seg words
segment_is words few =
    ap (segment (tiny words)) (header_is words few) ∙ ap (λ (bs : List ℕ). record { start = start; len = 4 * length words; exec = true; bytes = bs }) (bytes_is words)

segment_there : (words : List ℕ) (s : Seg) → IsCount (length words) → Contains (seg words ∷ []) s → (i : ℕ) × At (tiny words) has_memory i × (s ≡ segment (tiny words) (header (tiny words) i))
segment_there words s few (zero, below, is) = (0, at_first words has_memory few (some_memory (4 * length words) (omega arith)), sym (segment_is words few ∙ is))
segment_there words s few (suc k, below, is) = absurd (omega arith)

no_other : (words : List ℕ) (s : Seg) → IsCount (length words) → (i : ℕ) × At (tiny words) has_memory i × (s ≡ segment (tiny words) (header (tiny words) i)) → Contains (seg words ∷ []) s
no_other words s few (i, at, is) =
    let none : i ≡ 0 = omega (arith, at.0, phnum_is words) in
    (0, omega arith, sym (is ∙ ap (λ (k : ℕ). segment (tiny words) (header (tiny words) k)) none ∙ segment_is words few))

pub loads : (words : List ℕ) → IsCount (length words) → Loads (tiny words) [] (image_of words)
loads words few = record {
  passes = passes words few;
  entry = sym (entry_is words);
  segments = λ s. (segment_there words s few, no_other words s few);
  ascending = λ i j d less below. absurd (omega arith);
  given = refl;
}
