use Rattle.std.proofs.Common.{ℕ, ◌<◌}
use Rattle.pil_ast.specs.Tree.{namespaces, term}
use Rattle.pil_ast.specs.Filled.{IsMadeOf}
use Rattle.row_check.specs.Breaks.{IsEqual}
use Rattle.row_check.proofs.rows.first_unequal.Given as goal

abbrev pub invariant-loop-instance : goal.invariant-loop-instance
invariant-loop-instance g l =
    IsMadeOf (namespaces l.pil) l.inters × ((i : ℕ) → i < l.instance → IsEqual (namespaces l.pil) (g.C.Columns.values l.columns) l.space (term l.left) (term l.right) i)
