use Rattle.std.proofs.Common.{map}
use Rattle.pil_ast.specs.Tree.{line}
use Rattle.pil_ast.proofs.Plans.{PlansUpTo}
use Rattle.pil_ast.proofs.turns.turns_of.Given as goal

abbrev pub invariant-loop-item : goal.invariant-loop-item
invariant-loop-item l = PlansUpTo (map line l.items) l.order l.item-index l.turns l.marks
