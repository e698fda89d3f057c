use Rattle.std.proofs.Common.{◌≡◌, length, take}
use Rattle.pil_ast.specs.Tree.{namespaces}
use Rattle.pil_ast.specs.Holds.{lines}
use Rattle.pil_ast.proofs.tree.Pil.lines.Given as goal

abbrev pub invariant-loop-space : goal.invariant-loop-space
invariant-loop-space l = l.lines ≡ length (lines (take l.space-index (namespaces l.self)))
