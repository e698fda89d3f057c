use Rattle.std.proofs.Common.{◌≢◌, ◌+◌, ◌*◌, length, map, slice_get, Some}
use Rattle.pil_ast.specs.declared.order.State.TheVariants.{New}
use Rattle.pil_ast.specs.Tree.{line}
use Rattle.pil_ast.specs.Order.{IsSearch, KeepsFound}
use Rattle.pil_ast.proofs.Search.{new_count}
use Rattle.pil_ast.proofs.order.visit.Given as goal

abbrev pub invariant-loop-item : goal.invariant-loop-item
invariant-loop-item l =
    IsSearch (map line l.items) l.states l.stack l.order × KeepsFound l.fn.states l.states × (slice_get l.states l.root ≢ Some New)

abbrev pub decreases-loop-item : goal.decreases-loop-item
decreases-loop-item l = 2 * new_count l.states + length l.stack
