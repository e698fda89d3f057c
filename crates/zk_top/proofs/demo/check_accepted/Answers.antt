use Rattle.machine_text.specs.Machine.{machine}
use Rattle.row_check.specs.Breaks.{IsFirstBroken}
use Rattle.machine_columns.specs.Values.{values_of}
use Rattle.machine_columns.specs.Accepted.{AreAccepted}
use Rattle.zk_top.proofs.demo.check_accepted.Goals as goal

pub unreachable-requires : goal.unreachable-requires
unfolding AreAccepted
unreachable-requires c =
    let image = c.args.image.now in
    let witness = c.args.witness.now in
    let ns = machine witness.profile in
    let values = values_of image witness in
    let first : IsFirstBroken ns values c.in-Broken.field-0 = rw c.in-Broken.is at c.in_ok-verdict.ensures.judged in
    c.one_verdict.ensures.not_both ns values c.in-Broken.field-0 c.requires.accepted first
