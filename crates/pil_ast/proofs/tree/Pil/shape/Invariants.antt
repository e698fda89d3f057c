use Rattle.std.proofs.Common.{◌≡◌, take, map}
use Rattle.pil_ast.specs.Tree.{namespaces}
use Rattle.pil_ast.specs.Shape.{air_shape}
use Rattle.pil_ast.proofs.tree.Pil.shape.Given as goal

abbrev pub invariant-loop-space : goal.invariant-loop-space
invariant-loop-space l = l.airs ≡ map air_shape (take l.space-index (namespaces l.self))
