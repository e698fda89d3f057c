use Rattle.std.proofs.Common.{◌≡◌, length}
use Rattle.pil_ast.specs.Tree.{namespaces}
use Rattle.pil_ast.specs.Term.{Tuples}
use Rattle.pil_ast.specs.Holds.{by_rows, row_sent}
use Rattle.instance_pass.specs.Senders.{IsSenderOf}
use Rattle.pil_checker.proofs.rights.send_all.Given as goal

abbrev pub invariant-loop-instance : goal.invariant-loop-instance
invariant-loop-instance g l = record {
  room : length l.blocks ≡ length l.nodes;
  sent : (a : Tuples) → IsSenderOf (namespaces l.pil) l.nodes a l.sender → l.tuples ≡ by_rows (row_sent (namespaces l.pil) (g.C.Columns.values l.columns) a) l.instance l.rows;
}
