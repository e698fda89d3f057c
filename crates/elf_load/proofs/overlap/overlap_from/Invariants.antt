use Rattle.elf_load.specs.Layout.{NoneOverlaps}
use Rattle.elf_load.proofs.overlap.overlap_from.Given as goal

abbrev pub invariant-loop-i : goal.invariant-loop-i
invariant-loop-i l = NoneOverlaps l.headers l.i
