use Rattle.elf_load.specs.Layout.{HasNoPartner}
use Rattle.elf_load.proofs.overlap.partner.Given as goal

abbrev pub invariant-loop-j : goal.invariant-loop-j
invariant-loop-j l = HasNoPartner l.headers l.i l.j
