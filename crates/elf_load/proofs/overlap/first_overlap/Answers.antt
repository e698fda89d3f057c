use Rattle.elf_load.proofs.Meeting.{none_before}
use Rattle.elf_load.proofs.overlap.first_overlap.Goals as goal

pub overlap_from-requires : goal.overlap_from-requires
overlap_from-requires c = none_before c.args.headers.now c.args.extents.now _ c.requires.all c.first_meeting.ensures
