use Rattle.elf_load.proofs.Meeting.{Swept}
use Rattle.elf_load.proofs.overlap.first_meeting.Given as goal

abbrev pub invariant-loop-k : goal.invariant-loop-k
invariant-loop-k l = Swept l.extents l.k l.first l.reach
