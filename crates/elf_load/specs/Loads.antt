-- The image that a file and an input are.
use Rattle.std.specs.Prelude.{◌≡◌, ◌↔◌, ℕ, ◌<◌, List, take, drop, Contains, AllPairs}
use Rattle.elf_load.specs.File.{e_entry, header, At}
use Rattle.elf_load.specs.Header.{has_memory, is_executable}
use Rattle.elf_load.specs.Refusal.{Fails}
use Rattle.elf_load.specs.declared.header.ProgramHeader.{ProgramHeader}
use Rattle.elf_load.specs.declared.error.ElfErr.{ElfErr}
use Rattle.rv_model.specs.Image.{Seg, Img}

-- the segment of a program header; its bytes past those of the file are zero
abbrev pub segment : List ℕ → ProgramHeader → Seg
segment file h = record {
  start = h.p_vaddr;
  len = h.p_memsz;
  exec = is_executable h;
  bytes = take h.p_filesz (drop h.p_offset file);
}

-- the file passes each test, and the image has its entry, the segments of its headers with memory in
-- ascending order, and the input
pub record Loads (file input : List ℕ) (image : Img) : Type 0 where
  pub passes : (e : ElfErr) → Fails file e → ⊥
  pub entry : image.entry ≡ e_entry file
  pub segments : (s : Seg) → Contains image.segments s ↔ ((i : ℕ) × At file has_memory i × (s ≡ segment file (header file i)))
  pub ascending : AllPairs (λ s t. s.start < t.start) image.segments
  pub given : image.input ≡ input
