use Rattle.std.proofs.Common.{◌≡◌, ◌++◌}
use Rattle.pil_ast.specs.Tree.{namespaces, tuples as list_of}
use Rattle.pil_ast.specs.Filled.{IsMadeOf}
use Rattle.pil_ast.specs.Holds.{by_rows, row_sent}
use Rattle.bus_check.proofs.rows.push_list.Given as goal

abbrev pub invariant-loop-instance : goal.invariant-loop-instance
invariant-loop-instance g l =
    IsMadeOf (namespaces l.pil) l.inters × (l.tuples ≡ l.initial.tuples ++ by_rows (row_sent (namespaces l.pil) (g.C.Columns.values l.columns) (list_of l.list)) l.instance ((g.C.Columns.values l.columns).rows l.list.space))
