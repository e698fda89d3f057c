-- The numbers of an ELF64 file at their offsets (System V gABI, "ELF Header" and "Program Header").
use Rattle.std.specs.Prelude.{ℕ, ◌+◌, ◌*◌, ◌<◌, List, map, drop, Bool, IsTrue}
use Rattle.std.specs.List.{range_with_len}
use Rattle.byteorder.specs.Endian.{little_number}
use Rattle.elf_load.specs.declared.header.ProgramHeader.{ProgramHeader}

-- the number in two, four or eight bytes of the file, the lowest byte first
unfoldable pub u16_at : List ℕ → ℕ → ℕ
u16_at file at = little_number 2 (drop at file)

unfoldable pub u32_at : List ℕ → ℕ → ℕ
u32_at file at = little_number 4 (drop at file)

unfoldable pub u64_at : List ℕ → ℕ → ℕ
u64_at file at = little_number 8 (drop at file)

-- the fields of the file header that are read
abbrev pub e_type : List ℕ → ℕ
e_type file = u16_at file 16

abbrev pub e_machine : List ℕ → ℕ
e_machine file = u16_at file 18

abbrev pub e_entry : List ℕ → ℕ
e_entry file = u64_at file 24

abbrev pub e_phoff : List ℕ → ℕ
e_phoff file = u64_at file 32

abbrev pub e_phentsize : List ℕ → ℕ
e_phentsize file = u16_at file 54

abbrev pub e_phnum : List ℕ → ℕ
e_phnum file = u16_at file 56

-- where the program header with this index begins
abbrev pub header_offset : List ℕ → ℕ → ℕ
header_offset file i = e_phoff file + 56 * i

-- the program header at an offset
unfoldable pub header_at : List ℕ → ℕ → ProgramHeader
header_at file at = record {
  p_type = u32_at file at;
  p_flags = u32_at file (at + 4);
  p_offset = u64_at file (at + 8);
  p_vaddr = u64_at file (at + 16);
  p_filesz = u64_at file (at + 32);
  p_memsz = u64_at file (at + 40);
}

-- the program header with this index, and all of them
abbrev pub header : List ℕ → ℕ → ProgramHeader
header file i = header_at file (header_offset file i)

abbrev pub headers_of : List ℕ → List ProgramHeader
headers_of file = map (header file) (range_with_len 0 (e_phnum file))

-- there is a program header with this index, and it passes the test
abbrev pub At : List ℕ → (ProgramHeader → Bool) → ℕ → Type 0
At file test i = (i < e_phnum file) × IsTrue (test (header file i))
