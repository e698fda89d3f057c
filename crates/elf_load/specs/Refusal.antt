-- The loader's tests, and which refusal a file has.
use Rattle.std.specs.Prelude.{◌≡◌, ◌≢◌, false, nat_eq, ℕ, ◌+◌, ◌-◌, ◌%◌, ◌^◌, ◌<◌, ◌⊎◌, min, List, [], ◌∷◌, length, slice_index, sum, map, filter}
use Rattle.std.specs.List.{starts_with}
use Rattle.rv_model.specs.declared.machine.TheConstants.{MOST_LOADED}
use Rattle.elf_load.specs.File.{e_type, e_machine, e_entry, e_phentsize, e_phnum, header_offset, header, headers_of, At}
use Rattle.elf_load.specs.Header.{is_load, is_dynamic, lacks_bytes, is_out_of_range, holds_word, Covers, IsInWindow}
use Rattle.elf_load.specs.declared.header.ProgramHeader.{ProgramHeader}
use Rattle.elf_load.specs.declared.error.ElfErr.{ElfErr}
use Rattle.elf_load.specs.declared.error.ElfErr.TheVariants.{Short, BadMagic, NotElf64Le, NotExec, NotRiscv, BadPhdrs, NotStatic, FilePart, OutOfRange, Overlap, WindowClash, TooMuchData, EntryOutside, NoMemory}

-- how many bytes the segments have in the file
abbrev pub data_size : List ProgramHeader → ℕ
data_size hs = sum (map (λ h. h.p_filesz) (filter is_load hs))

-- an executable word is at the address: four bytes at a multiple of 4, all in one executable segment
abbrev pub HasWord : List ℕ → ℕ → Type 0
HasWord file a = (a % 4 ≡ 0) × (i : ℕ) × At file (holds_word a) i

-- the test that this refusal names fails, with its numbers
abbrev pub Fails : List ℕ → ElfErr → Type 0
Fails file (Short len) = (len ≡ length file) × (len < 64)
Fails file BadMagic = starts_with nat_eq file (0x7F ∷ 0x45 ∷ 0x4C ∷ 0x46 ∷ []) ≡ false
Fails file NotElf64Le = (slice_index file 4 ≢ 2) ⊎ (slice_index file 5 ≢ 1) ⊎ (slice_index file 6 ≢ 1)
Fails file (NotExec kind) = (kind ≡ e_type file) × (kind ≢ 2)
Fails file (NotRiscv machine) = (machine ≡ e_machine file) × (machine ≢ 243)
Fails file (BadPhdrs i) = (i < e_phnum file) × ((e_phentsize file ≢ 56) ⊎ (length file < header_offset file i + 56))
Fails file (NotStatic i) = At file is_dynamic i
Fails file (FilePart i) = At file (lacks_bytes (length file)) i
Fails file (OutOfRange i) = At file is_out_of_range i
Fails file (Overlap i j) = (i < j) × (j < e_phnum file) × (a : ℕ) × Covers (header file i) a × Covers (header file j) a
Fails file (WindowClash i) = (i < e_phnum file) × (a : ℕ) × Covers (header file i) a × IsInWindow a
Fails file (TooMuchData bytes) = (bytes ≡ min (data_size (headers_of file)) (2 ^ 64 - 1)) × (MOST_LOADED < bytes)
Fails file (EntryOutside entry) = (entry ≡ e_entry file) × (HasWord file entry → ⊥)
Fails file NoMemory = ⊥

-- the place of the test in the order of the tests
abbrev pub place : ElfErr → ℕ
place (Short len) = 0
place BadMagic = 1
place NotElf64Le = 2
place (NotExec kind) = 3
place (NotRiscv machine) = 4
place (BadPhdrs i) = 5
place (NotStatic i) = 6
place (FilePart i) = 7
place (OutOfRange i) = 8
place (Overlap i j) = 9
place (WindowClash i) = 10
place (TooMuchData bytes) = 11
place (EntryOutside entry) = 12
place NoMemory = 13

-- the index of the program header at which a test fails, and the second one of an overlap
abbrev pub index : ElfErr → ℕ
index (BadPhdrs i) = i
index (NotStatic i) = i
index (FilePart i) = i
index (OutOfRange i) = i
index (Overlap i j) = i
index (WindowClash i) = i
index other = 0

abbrev pub second_index : ElfErr → ℕ
second_index (Overlap i j) = j
second_index other = 0

-- an earlier test, or the same one at a lesser index, or at the same index and a lesser second one
abbrev pub IsBefore : ElfErr → ElfErr → Type 0
IsBefore e f =
    (place e < place f)
    ⊎ ((place e ≡ place f) × ((index e < index f) ⊎ ((index e ≡ index f) × (second_index e < second_index f))))

-- the refusal of the file: its test fails, and none before it
pub record Refused (file : List ℕ) (e : ElfErr) : Type 0 where
  pub fails : Fails file e
  pub first : (f : ElfErr) → IsBefore f e → Fails file f → ⊥
