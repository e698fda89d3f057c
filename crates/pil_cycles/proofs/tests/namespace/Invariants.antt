use Rattle.std.proofs.Common.{ℕ, ◌≡◌, ◌<◌, map, length}
use Rattle.pil_ast.specs.Tree.{line}
use Rattle.pil_ast.specs.Term.{inter_at}
use Rattle.pil_ast.specs.Sound.{NamesOnly}
use Rattle.pil_cycles.proofs.tests.namespace.Given as goal

abbrev pub invariant-loop-item : goal.invariant-loop-item
invariant-loop-item l = (length l.items ≡ l.item) × ((k : ℕ) → NamesOnly (λ j. j < l.count) (inter_at (map line l.items) k))
