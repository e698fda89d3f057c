use Rattle.std.proofs.Common.{◌≡◌, ◌++◌, take, map, filter, All}
use Rattle.pil_ast.specs.Tree.{namespaces, line}
use Rattle.pil_ast.specs.Term.{is_line}
use Rattle.pil_lines.specs.Places.{item_of, IsInside}
use Rattle.pil_lines.proofs.places.push_places.Given as goal

abbrev pub invariant-loop-item : goal.invariant-loop-item
invariant-loop-item l =
    (map (item_of (namespaces l.pil)) l.places.items ≡ map (item_of (namespaces l.pil)) l.fn.places.items ++ filter is_line (take l.item (map line l.items))) × All (IsInside (namespaces l.pil)) l.places.items
