use Rattle.std.proofs.Common.{◌≡◌, ◌++◌, map, take}
use Rattle.pil_ast.specs.Tree.{namespaces, tuples as list_of}
use Rattle.pil_ast.specs.Filled.{IsMadeOf}
use Rattle.pil_ast.specs.Holds.{all_sent}
use Rattle.bus_check.proofs.rows.push_lists.Given as goal

abbrev pub invariant-loop-list : goal.invariant-loop-list
invariant-loop-list g l =
    IsMadeOf (namespaces l.pil) l.inters × (l.tuples ≡ l.initial.tuples ++ all_sent (namespaces l.pil) (g.C.Columns.values l.columns) (take l.list-index (map list_of l.lists)))
