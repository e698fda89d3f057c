use Rattle.std.proofs.Common.{◌+◌, ◌≤◌, ◌<◌, length, ◌-◌}
use Rattle.host_io.proofs.Loops.{SameRights, HasFed}
use Rattle.host_io.proofs.reading.read_into.Given as goal

abbrev pub invariant-loop-count : goal.invariant-loop-count
invariant-loop-count g l =
    record {
      rights : SameRights (g.H.Host.given l.fn.host) (g.H.Host.given l.host) (g.H.Host.may_read l.fn.host) (g.H.Host.may_read l.host) (g.H.Host.may_write l.fn.host) (g.H.Host.may_write l.host);
      read : HasFed (g.H.Host.tells l.fn.host) (g.H.Host.tells l.host) (g.H.Host.world l.fn.host) (g.H.Host.world l.host) l.slot.number (g.H.Host.faults l.fn.host) (g.H.Host.faults l.host) l.max l.done (λ start bytes. g.S.Sink.given start l.fn.sink bytes) (λ start bytes. g.S.Sink.given start l.sink bytes);
      may : g.H.Host.may_read l.host l.slot.number;
      room : 0 < length l.buffer;
      ready : g.S.Sink.ready l.sink;
      taken : g.S.Sink.taken l.sink ≤ g.S.Sink.taken l.fn.sink + l.done;
    }

abbrev pub decreases-loop-count : goal.decreases-loop-count
decreases-loop-count g l = l.max + 1 - l.done
