use Rattle.std.proofs.Common.{◌≡◌, ◌++◌, map, flat_map, take}
use Rattle.pil_ast.specs.Tree.{namespaces, tuples as list_of}
use Rattle.pil_ast.specs.Filled.{IsMadeOf}
use Rattle.bus_check.specs.Run.{sent_from}
use Rattle.bus_check.proofs.rows.push_from.Given as goal

abbrev pub invariant-loop-list : goal.invariant-loop-list
invariant-loop-list g l =
    IsMadeOf (namespaces l.pil) l.inters × (l.tuples ≡ l.initial.tuples ++ flat_map (sent_from (namespaces l.pil) (record { columns = g.C.Columns.values l.columns; space = l.space; instance = l.instance })) (take l.list-index (map list_of l.lists)))
