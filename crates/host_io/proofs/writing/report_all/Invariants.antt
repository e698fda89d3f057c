use Rattle.std.proofs.Common.{length, ◌-◌}
use Rattle.host_io.proofs.Loops.{SameRights, HasReported}
use Rattle.host_io.proofs.writing.report_all.Given as goal

abbrev pub invariant-loop-done : goal.invariant-loop-done
invariant-loop-done g l =
    record {
      rights : SameRights (g.H.Host.given l.fn.host) (g.H.Host.given l.host) (g.H.Host.may_read l.fn.host) (g.H.Host.may_read l.host) (g.H.Host.may_write l.fn.host) (g.H.Host.may_write l.host);
      reported : HasReported (g.H.Host.tells l.fn.host) (g.H.Host.tells l.host) (g.H.Host.world l.fn.host) (g.H.Host.world l.host) (g.H.Host.faults l.fn.host) (g.H.Host.faults l.host) l.done l.bytes;
    }

abbrev pub decreases-loop-done : goal.decreases-loop-done
decreases-loop-done g l = length l.initial.bytes - l.done
