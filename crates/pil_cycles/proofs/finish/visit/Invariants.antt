use Rattle.std.proofs.Common.{◌+◌, ◌*◌, length, map}
use Rattle.pil_ast.specs.Tree.{line}
use Rattle.pil_cycles.specs.Paths.{NamesAt}
use Rattle.pil_cycles.specs.Finish.{IsVisit, IsFound, KeepsFound}
use Rattle.pil_cycles.proofs.Steps.{new_count}
use Rattle.pil_cycles.proofs.finish.visit.Given as goal

abbrev pub invariant-loop-item : goal.invariant-loop-item
invariant-loop-item l =
    IsVisit (NamesAt (map line l.items)) (length l.items) l.found l.stack l.order × KeepsFound l.fn.found l.found × IsFound l.found l.root

abbrev pub decreases-loop-item : goal.decreases-loop-item
decreases-loop-item l = 2 * new_count l.found + length l.stack
