use Rattle.std.proofs.Common.{ℕ, ◌≤◌, ◌<◌, length}
use Rattle.pil_ast.specs.Tree.{namespaces}
use Rattle.pil_ast.specs.Term.{space_at}
use Rattle.pil_ast.proofs.values.most_items.Given as goal

abbrev pub invariant-loop-space : goal.invariant-loop-space
invariant-loop-space l = (s : ℕ) → s < l.space-index → length (space_at (namespaces l.pil) s).items ≤ l.most
