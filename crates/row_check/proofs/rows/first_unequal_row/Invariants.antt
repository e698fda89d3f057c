use Rattle.std.proofs.Common.{ℕ, ◌<◌}
use Rattle.pil_ast.specs.Tree.{namespaces, term}
use Rattle.pil_ast.specs.Filled.{IsMadeOf}
use Rattle.pil_ast.specs.Holds.{EqualAt}
use Rattle.row_check.proofs.rows.first_unequal_row.Given as goal

abbrev pub invariant-loop-row : goal.invariant-loop-row
invariant-loop-row g l =
    IsMadeOf (namespaces l.pil) l.inters × ((q : ℕ) → q < l.row → EqualAt (namespaces l.pil) (g.C.Columns.values l.columns) l.space (term l.left) (term l.right) l.instance q)
