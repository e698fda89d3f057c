use Rattle.std.proofs.Common.{◌<◌}
use Rattle.pil_ast.specs.Tree.{term}
use Rattle.pil_ast.specs.Sound.{NamesOnly}
use Rattle.pil_cycles.proofs.tests.sum_of.Given as goal

abbrev pub invariant-loop-from : goal.invariant-loop-from
invariant-loop-from l = NamesOnly (λ k. k < l.count) (term l.sum)
