use Rattle.elf_load.specs.Extents.{HasExtents}
use Rattle.elf_load.proofs.overlap.extents.Given as goal

abbrev pub invariant-loop-index : goal.invariant-loop-index
invariant-loop-index l = HasExtents l.headers l.index l.extents.items
