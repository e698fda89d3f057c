use Rattle.std.proofs.Common.{ℕ, ◌<◌, [], map, length}
use Rattle.pil_ast.specs.Tree.{line}
use Rattle.pil_cycles.specs.Paths.{NamesAt}
use Rattle.pil_cycles.specs.Finish.{IsVisit, IsFound}
use Rattle.pil_cycles.proofs.finish.visit_all.Given as goal

abbrev pub invariant-loop-root : goal.invariant-loop-root
invariant-loop-root l =
    IsVisit (NamesAt (map line l.items)) (length l.items) l.found [] l.order × ((k : ℕ) → k < l.root → IsFound l.found k)
