use Rattle.std.proofs.Common.{◌≡◌, take, map, All}
use Rattle.pil_ast.specs.Tree.{namespaces}
use Rattle.pil_ast.specs.Holds.{lines}
use Rattle.pil_lines.specs.Places.{item_of, IsInside}
use Rattle.pil_lines.proofs.places.line_places.Given as goal

abbrev pub invariant-loop-space : goal.invariant-loop-space
invariant-loop-space l =
    (map (item_of (namespaces l.pil)) l.places.items ≡ lines (take l.space (namespaces l.pil))) × All (IsInside (namespaces l.pil)) l.places.items
