use Rattle.std.proofs.Common.{◌≡◌, map, take}
use Rattle.std.specs.Prelude.{flat_map}
use Rattle.pil_ast.specs.Tree.{namespace, namespaces}
use Rattle.pil_print.specs.Statements.{statements_of}
use Rattle.pil_print.specs.Printed.{text_of}
use Rattle.pil_print.proofs.printing.print.Given as goal

abbrev pub invariant-loop-space : goal.invariant-loop-space
invariant-loop-space l = l.text.items ≡ text_of (flat_map (statements_of (namespaces l.pil)) (map namespace (take l.space-index l.names.spaces.now)))
