-- What a program header says (System V gABI, "Program Header").
use Rattle.std.specs.Prelude.{◌==◌, ◌&&◌, ◌||◌, ℕ, ◌+◌, ◌%◌, ◌<◌, ◌≤◌, ◌⊎◌, nat_lt, nat_le, Bool, IsTrue}
use Rattle.rv_model.specs.declared.machine.TheConstants.{MEMORY_END, INPUT_START, INPUT_END, OUTPUT_START, OUTPUT_END}
use Rattle.elf_load.specs.declared.header.ProgramHeader.{ProgramHeader}

-- PT_LOAD
abbrev pub is_load : ProgramHeader → Bool
is_load h = h.p_type == 1

-- a segment that has memory
abbrev pub has_memory : ProgramHeader → Bool
has_memory h = is_load h && nat_lt 0 h.p_memsz

-- PF_X, the lowest bit of the flags
abbrev pub is_executable : ProgramHeader → Bool
is_executable h = h.p_flags % 2 == 1

-- PT_DYNAMIC or PT_INTERP
abbrev pub is_dynamic : ProgramHeader → Bool
is_dynamic h = h.p_type == 2 || h.p_type == 3

-- a segment whose bytes a file of that length does not have, or that has more of them than memory
abbrev pub lacks_bytes : ℕ → ProgramHeader → Bool
lacks_bytes size h = is_load h && (nat_lt size (h.p_offset + h.p_filesz) || nat_lt h.p_memsz h.p_filesz)

-- a segment that ends past the end of memory
abbrev pub is_out_of_range : ProgramHeader → Bool
is_out_of_range h = has_memory h && nat_lt MEMORY_END (h.p_vaddr + h.p_memsz)

-- an executable segment that holds the four bytes at an address
abbrev pub holds_word : ℕ → ProgramHeader → Bool
holds_word a h = is_load h && is_executable h && nat_le h.p_vaddr a && nat_le (a + 4) (h.p_vaddr + h.p_memsz)

-- the segment has the address
abbrev pub Covers : ProgramHeader → ℕ → Type 0
Covers h a = IsTrue (is_load h) × (h.p_vaddr ≤ a) × (a < h.p_vaddr + h.p_memsz)

-- the address is in the input window or in the output window
abbrev pub IsInWindow : ℕ → Type 0
IsInWindow a = ((INPUT_START ≤ a) × (a < INPUT_END)) ⊎ ((OUTPUT_START ≤ a) × (a < OUTPUT_END))
