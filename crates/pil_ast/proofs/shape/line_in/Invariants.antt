use Rattle.std.proofs.Common.{◌≡◌, ◌+◌, take, length, filter}
use Rattle.pil_ast.specs.Tree.{line}
use Rattle.pil_ast.specs.Term.{is_line}
use Rattle.pil_ast.proofs.shape.line_in.Given as goal

abbrev pub invariant-loop-item : goal.invariant-loop-item
invariant-loop-item l = l.before + length (filter (λ item. is_line (line item)) (take l.item-index l.items)) ≡ l.number
