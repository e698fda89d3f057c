use Rattle.std.proofs.Common.{◌≡◌, take}
use Rattle.pil_ast.specs.Tree.{namespaces}
use Rattle.pil_ast.specs.Term.{publics}
use Rattle.pil_ast.proofs.values.places_of.Given as goal

abbrev pub invariant-loop-space : goal.invariant-loop-space
invariant-loop-space l = l.places ≡ publics (take l.space-index (namespaces l.pil))
