use Rattle.std.proofs.Common.{ℕ, ◌<◌}
use Rattle.pil_ast.specs.Tree.{namespaces, tuples as list_of}
use Rattle.pil_ast.specs.Filled.{IsMadeOf}
use Rattle.bus_check.specs.Bus.{StandsAt}
use Rattle.bus_check.proofs.lookups.first_missing_row.Given as goal

abbrev pub invariant-loop-row : goal.invariant-loop-row
invariant-loop-row g l =
    IsMadeOf (namespaces l.pil) l.inters × ((q : ℕ) → q < l.row → StandsAt (namespaces l.pil) (g.C.Columns.values l.columns) (list_of l.left) l.right l.instance q)
