use Rattle.std.proofs.Common.{◌∙◌, refl, arith}
use Rattle.host_io.proofs.Loops.{SameRights-trans, after_report-further}
use Rattle.host_io.proofs.writing.report_all.Goals as goal

pub loop-done-preserved : goal.loop-done-preserved
loop-done-preserved g c =
    let i = c.loop-done.invariant.reported in
    let answer = c.in-Ok.ensures in
    record {
      rights = SameRights-trans _ _ _ _ _ _ _ _ _ c.loop-done.invariant.rights answer.given answer.may_read answer.may_write;
      reported = record {
        within = omega (arith, answer.within);
        told = λ t. answer.told (i.told t);
        front = λ t. after_report-further _ _ _ c.args.bytes.now c.loop-done.done c.in-Ok.count (i.front t) (answer.ok (i.told t));
        faults = answer.cause.answered refl ∙ i.faults;
      };
    }
