use Rattle.pil_ast.specs.Tree.{namespaces}
use Rattle.pil_ast.specs.Term.{item_at}
use Rattle.pil_ast.specs.Filled.{IsMadeOf}
use Rattle.pil_ast.specs.Holds.{lines}
use Rattle.bus_check.specs.Run.{Takes, AtFirst}
use Rattle.bus_check.proofs.runs.take_lines.Given as goal

abbrev pub invariant-loop-line : goal.invariant-loop-line
invariant-loop-line g l =
    IsMadeOf (namespaces l.pil) l.inters × AtFirst (λ k. Takes (namespaces l.pil) (record { columns = g.C.Columns.values l.columns; space = l.space; instance = l.instance }) (item_at (lines (namespaces l.pil)) k)) l.line l.fn.sides l.sides
