use Rattle.std.proofs.Common.{ℕ, ◌<◌, map}
use Rattle.pil_ast.specs.Tree.{line}
use Rattle.pil_ast.specs.Term.{item_at}
use Rattle.pil_program.specs.Publics.{NoneInItem}
use Rattle.pil_program.proofs.publics.none_in_items.Given as goal

abbrev pub invariant-loop-item : goal.invariant-loop-item
invariant-loop-item l = (k : ℕ) → k < l.item-index → NoneInItem (item_at (map line l.items) k)
