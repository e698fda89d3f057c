use Rattle.std.proofs.Common.{ℕ, ◌≢◌, ◌<◌, [], map, slice_get, Some}
use Rattle.pil_ast.specs.declared.order.State.TheVariants.{New}
use Rattle.pil_ast.specs.Tree.{line}
use Rattle.pil_ast.specs.Term.{item_at}
use Rattle.pil_ast.specs.Sound.{IsInter}
use Rattle.pil_ast.specs.Order.{IsSearch}
use Rattle.pil_ast.proofs.order.visit_all.Given as goal

abbrev pub invariant-loop-root : goal.invariant-loop-root
invariant-loop-root l =
    IsSearch (map line l.items) l.states [] l.order × ((k : ℕ) → k < l.root → IsInter (item_at (map line l.items) k) → slice_get l.states k ≢ Some New)
