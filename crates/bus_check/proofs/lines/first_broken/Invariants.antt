use Rattle.std.proofs.Common.{ℕ, ◌<◌}
use Rattle.pil_ast.specs.Tree.{namespaces}
use Rattle.pil_ast.specs.Term.{item_at}
use Rattle.pil_ast.specs.Filled.{IsMadeOf}
use Rattle.pil_ast.specs.Holds.{Holds, lines}
use Rattle.bus_check.proofs.lines.first_broken.Given as goal

abbrev pub invariant-loop-before : goal.invariant-loop-before
invariant-loop-before g l =
    IsMadeOf (namespaces l.pil) l.inters × ((k : ℕ) → k < l.before → Holds (namespaces l.pil) (g.C.Columns.values l.columns) (item_at (lines (namespaces l.pil)) k))
