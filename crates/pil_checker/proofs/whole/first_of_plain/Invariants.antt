use Rattle.std.proofs.Common.{ℕ, ◌≡◌, ◌<◌, ◌≤◌}
use Rattle.pil_ast.specs.Tree.{namespaces}
use Rattle.pil_checker.specs.Standing.{IsBuilt, StandsFor, added}
use Rattle.pil_checker.proofs.whole.first_of_plain.Given as goal

abbrev pub invariant-loop-space : goal.invariant-loop-space
invariant-loop-space g l = record {
  built : IsBuilt (namespaces l.pil) l.checker;
  stands : StandsFor (namespaces l.pil) (g.C.Columns.values l.columns) l.checker;
  done : (t : ℕ) → t < l.space → added l.checker t ≡ (g.C.Columns.values l.columns).instances t;
  rest : (t : ℕ) → l.space ≤ t → added l.checker t ≡ 0;
}
