use Rattle.std.proofs.Common.{◌≤◌, length, arith}
use Rattle.elf_load.proofs.Meeting.{swept_all}
use Rattle.elf_load.proofs.overlap.first_meeting.Goals as goal

pub returns : goal.returns
returns c =
    let all : length c.args.extents.now ≤ c.loop-k.k = omega (arith, c.loop-k-test.false) in
    swept_all c.args.extents.now c.loop-k.k c.loop-k.first c.loop-k.reach c.requires all c.loop-k.invariant
