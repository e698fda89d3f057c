-- The least ELF file of some words (System V gABI, "ELF Header" and "Program Header"): one executable segment.
use Rattle.std.specs.Prelude.{ℕ, ◌*◌, List, [], ◌∷◌, ◌++◌, length, replicate}
use Rattle.std.specs.List.{flat_map}
use Rattle.std.specs.Int.{to_le_bytes, w16, w32, w64}

-- a number in two, four and eight bytes, the lowest byte first
abbrev pub half : ℕ → List ℕ
half n = to_le_bytes w16 n

abbrev pub word : ℕ → List ℕ
word n = to_le_bytes w32 n

abbrev pub long : ℕ → List ℕ
long n = to_le_bytes w64 n

-- where the words are in memory, which is where the run begins
abbrev pub start : ℕ
start = 0x10078

unfoldable pub file_header : List ℕ
file_header =
    -- e_ident: the magic, 64 bits, the low byte first, version 1
    0x7F ∷ 0x45 ∷ 0x4C ∷ 0x46 ∷ 2 ∷ 1 ∷ 1 ∷ [] ++ replicate 9 0
    -- e_type, e_machine, e_version
    ++ half 2 ++ half 243 ++ word 1
    -- e_entry, e_phoff, e_shoff
    ++ long start ++ long 64 ++ long 0
    -- e_flags, e_ehsize, e_phentsize, e_phnum, e_shentsize, e_shnum, e_shstrndx
    ++ word 0 ++ half 64 ++ half 56 ++ half 1 ++ half 0 ++ half 0 ++ half 0

-- of a segment with so many bytes, which may be read and executed
unfoldable pub program_header : ℕ → List ℕ
program_header size =
    -- p_type, p_flags, p_offset
    word 1 ++ word 5 ++ long 120
    -- p_vaddr, p_paddr, p_filesz, p_memsz, p_align
    ++ long start ++ long start ++ long size ++ long size ++ long 4

unfoldable pub tiny : List ℕ → List ℕ
tiny words = file_header ++ program_header (4 * length words) ++ flat_map word words
