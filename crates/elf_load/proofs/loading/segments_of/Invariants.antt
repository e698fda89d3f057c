use Rattle.std.proofs.Common.{◌≡◌, map, take}
use Rattle.elf_load.specs.Loads.{segment}
use Rattle.elf_load.proofs.loading.segments_of.Given as goal

abbrev pub invariant-loop-header : goal.invariant-loop-header
invariant-loop-header l = l.segments.items ≡ map (segment l.file) (take l.header-index l.headers)
