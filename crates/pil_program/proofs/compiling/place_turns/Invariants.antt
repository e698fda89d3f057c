use Rattle.std.proofs.Common.{◌≡◌, take, length, Contains}
use Rattle.pil_ast.specs.Tree.{namespaces}
use Rattle.pil_ast.specs.Term.{space_at, width}
use Rattle.pil_ast.specs.Turns.{items_of}
use Rattle.pil_program.specs.Program.{IsProgram, HaveSteps}
use Rattle.pil_program.proofs.compiling.place_turns.Given as goal

abbrev pub invariant-loop-turn : goal.invariant-loop-turn
invariant-loop-turn l =
    HaveSteps (namespaces l.pil) l.space l.nodes (Contains (take l.turn-index (items_of l.turns))) l.here l.next
    × IsProgram (width (space_at (namespaces l.pil) l.space).items) l.nodes
    × (length l.here ≡ length l.fn.here) × (length l.next ≡ length l.fn.next)
