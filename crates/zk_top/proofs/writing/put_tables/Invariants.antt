use Rattle.std.proofs.Common.{◌≤◌}
use Rattle.tab_file.specs.Pieces.{head_text}
use Rattle.zk_top.proofs.Pieces.{HasPut, so_far}
use Rattle.zk_top.proofs.writing.put_tables.Given as goal

-- what stands before the instances and the instances so far were written, but for what the buffer holds
abbrev pub invariant-loop-table : goal.invariant-loop-table
invariant-loop-table g l =
    record {
      may : g.H.Host.may_write l.host l.slot.number;
      told : g.H.Host.tells l.fn.host → g.H.Host.tells l.host;
      put : g.H.Host.tells l.fn.host → HasPut (g.H.Host.world l.fn.host) (g.H.Host.world l.host) l.slot.number (so_far (head_text l.witness) l.tables l.table-index) l.piece.items;
      later : g.H.Host.faults l.fn.host ≤ g.H.Host.faults l.host;
    }
