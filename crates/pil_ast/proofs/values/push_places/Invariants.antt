use Rattle.std.proofs.Common.{◌≡◌, ◌++◌, take, map}
use Rattle.std.specs.List.{flat_map}
use Rattle.pil_ast.specs.Tree.{line}
use Rattle.pil_ast.specs.Term.{places_of}
use Rattle.pil_ast.proofs.values.push_places.Given as goal

abbrev pub invariant-loop-item : goal.invariant-loop-item
invariant-loop-item l = l.places ≡ l.fn.places ++ flat_map places_of (take l.item-index (map line l.items))
