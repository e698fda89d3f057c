use Rattle.std.proofs.Common.{◌∙◌, refl, arith}
use Rattle.host_io.proofs.Loops.{SameRights-trans, after_write-further}
use Rattle.host_io.proofs.writing.write_all.Goals as goal

pub loop-done-preserved : goal.loop-done-preserved
loop-done-preserved g c =
    let i = c.loop-done.invariant.written in
    let answer = c.in-Ok.ensures in
    record {
      rights = SameRights-trans _ _ _ _ _ _ _ _ _ c.loop-done.invariant.rights answer.given answer.may_read answer.may_write;
      written = record {
        within = omega (arith, answer.within);
        told = λ t. answer.told (i.told t);
        front = λ t. after_write-further _ _ _ c.args.slot.number c.args.bytes.now c.loop-done.done c.in-Ok.count (i.front t) (answer.ok (i.told t));
        faults = answer.cause.answered refl ∙ i.faults;
      };
      may = (answer.may_write c.args.slot.number).1 c.loop-done.invariant.may;
    }
