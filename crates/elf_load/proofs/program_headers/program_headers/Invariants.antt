use Rattle.std.proofs.Common.{◌≡◌, ℕ, ◌<◌, map, vec_len}
use Rattle.std.specs.List.{range_with_len}
use Rattle.elf_load.specs.File.{header}
use Rattle.elf_load.specs.Refusal.{Fails}
use Rattle.elf_load.specs.declared.error.ElfErr.TheVariants.{BadPhdrs}
use Rattle.elf_load.proofs.program_headers.program_headers.Given as goal

abbrev pub invariant-loop-index : goal.invariant-loop-index
invariant-loop-index l = record {
  read : l.headers.items ≡ map (header l.file) (range_with_len 0 l.index);
  count : vec_len l.headers ≡ l.index;
  found : (i : ℕ) → i < l.index → Fails l.file (BadPhdrs i) → ⊥;
}
