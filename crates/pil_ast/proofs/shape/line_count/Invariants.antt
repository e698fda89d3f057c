use Rattle.std.proofs.Common.{◌≡◌, ◌≤◌, take, count_by}
use Rattle.pil_ast.specs.Tree.{line}
use Rattle.pil_ast.specs.Term.{is_line}
use Rattle.pil_ast.proofs.shape.line_count.Given as goal

abbrev pub invariant-loop-item : goal.invariant-loop-item
invariant-loop-item l = (l.lines ≡ count_by (λ item. is_line (line item)) (take l.item-index l.items)) × (l.lines ≤ l.item-index)
