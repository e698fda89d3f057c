use Rattle.std.proofs.Common.{map, take}
use Rattle.pil_ast.specs.Tree.{line}
use Rattle.pil_ast.specs.Turns.{items_of}
use Rattle.pil_meaning.proofs.Marking.{Marks}
use Rattle.pil_meaning.proofs.marks.marks_of.Given as goal

abbrev pub invariant-loop-turn : goal.invariant-loop-turn
invariant-loop-turn l = Marks (map line l.items) (items_of (take l.turn-index l.turn-items)) l.marks.items
