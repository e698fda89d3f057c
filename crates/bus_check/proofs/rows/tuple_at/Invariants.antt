use Rattle.std.proofs.Common.{◌≡◌, take, map}
use Rattle.pil_ast.specs.Tree.{namespaces, term}
use Rattle.pil_ast.specs.Holds.{tuple}
use Rattle.bus_check.proofs.rows.tuple_at.Given as goal

abbrev pub invariant-loop-expr : goal.invariant-loop-expr
invariant-loop-expr g l = l.values.items ≡ tuple (namespaces l.pil) (g.C.Columns.values l.columns) l.space l.instance l.row (take l.expr-index (map term l.exprs))
