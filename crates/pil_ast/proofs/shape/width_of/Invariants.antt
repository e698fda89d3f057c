use Rattle.std.proofs.Common.{◌≡◌, take, sum_by}
use Rattle.pil_ast.specs.Tree.{line}
use Rattle.pil_ast.specs.Term.{columns_of}
use Rattle.pil_ast.proofs.shape.width_of.Given as goal

abbrev pub invariant-loop-item : goal.invariant-loop-item
invariant-loop-item l = l.columns ≡ sum_by (λ item. columns_of (line item)) (take l.item-index l.items)
