use Rattle.std.proofs.Common.{ℕ, ◌<◌}
use Rattle.pil_ast.specs.Tree.{namespaces, tuples as list_of}
use Rattle.pil_ast.specs.Filled.{IsMadeOf}
use Rattle.bus_check.specs.Bus.{StandsAt, AtEachRowOf}
use Rattle.bus_check.proofs.lookups.first_missing.Given as goal

abbrev pub invariant-loop-instance : goal.invariant-loop-instance
invariant-loop-instance g l =
    IsMadeOf (namespaces l.pil) l.inters × ((i : ℕ) → i < l.instance → AtEachRowOf (g.C.Columns.values l.columns) l.left.space (StandsAt (namespaces l.pil) (g.C.Columns.values l.columns) (list_of l.left) l.right) i)
