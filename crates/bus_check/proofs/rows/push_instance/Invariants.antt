use Rattle.std.proofs.Common.{◌≡◌, ◌++◌, flat_map}
use Rattle.std.specs.List.{range_with_len}
use Rattle.pil_ast.specs.Tree.{namespaces, tuples as list_of}
use Rattle.pil_ast.specs.Filled.{IsMadeOf}
use Rattle.pil_ast.specs.Holds.{row_sent}
use Rattle.bus_check.proofs.rows.push_instance.Given as goal

abbrev pub invariant-loop-row : goal.invariant-loop-row
invariant-loop-row g l =
    IsMadeOf (namespaces l.pil) l.inters × (l.tuples ≡ l.initial.tuples ++ flat_map (row_sent (namespaces l.pil) (g.C.Columns.values l.columns) (list_of l.list) l.instance) (range_with_len 0 l.row))
