use Rattle.std.proofs.Common.{◌≡◌, take, length, Contains}
use Rattle.pil_ast.specs.Tree.{namespaces}
use Rattle.pil_ast.specs.Term.{space_at}
use Rattle.pil_ast.specs.Value.{around}
use Rattle.pil_ast.specs.Turns.{items_of}
use Rattle.pil_ast.proofs.Known.{Known}
use Rattle.pil_ast.proofs.values.fill_turns.Given as goal

abbrev pub invariant-loop-turn : goal.invariant-loop-turn
invariant-loop-turn g l =
    Known (space_at (namespaces l.pil) l.position.space).items (around (namespaces l.pil) (g.C.Columns.values l.columns) l.position.space l.position.instance l.position.row) (Contains (take l.turn-index (items_of l.turns))) l.here l.next
    × (length l.here ≡ length l.fn.here) × (length l.next ≡ length l.fn.next)
