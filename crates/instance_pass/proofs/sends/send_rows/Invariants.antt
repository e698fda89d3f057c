use Rattle.std.proofs.Common.{◌≡◌, ◌≤◌, ◌-◌, ◌++◌, List, length, flat_map}
use Rattle.std.specs.List.{range_with_len}
use Rattle.pil_ast.specs.Term.{Namespace, Tuples}
use Rattle.pil_ast.specs.Holds.{row_sent}
use Rattle.instance_pass.specs.Senders.{IsSenderOf}
use Rattle.instance_pass.proofs.sends.send_rows.Given as goal

abbrev pub invariant-loop-base : goal.invariant-loop-base
invariant-loop-base g l = record {
  room : length l.blocks ≡ length l.fn.blocks;
  low : l.base ≤ l.place.rows;
  sent : (ns : List Namespace) (a : Tuples) → IsSenderOf ns l.nodes a l.sender → a.space ≡ l.place.space → l.tuples ≡ l.fn.tuples ++ flat_map (row_sent ns (g.C.Columns.values l.columns) a l.place.instance) (range_with_len 0 l.base);
}

abbrev pub decreases-loop-base : goal.decreases-loop-base
decreases-loop-base g l = l.place.rows - l.base
