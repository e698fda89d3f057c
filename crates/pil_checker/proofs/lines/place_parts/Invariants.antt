use Rattle.std.proofs.Common.{◌≡◌, ◌+◌, take, map, length}
use Rattle.pil_ast.specs.Tree.{namespaces, tuples}
use Rattle.pil_checker.specs.Programs.{IsPlacing, nodes_at}
use Rattle.pil_checker.specs.Plans.{Extends, HaveParts, AreKnown, AreIdle}
use Rattle.pil_checker.proofs.lines.place_parts.Given as goal

abbrev pub invariant-loop-list : goal.invariant-loop-list
invariant-loop-list l = record {
  placing : IsPlacing (namespaces l.pil) l.fn.programs.items l.programs.items;
  extends : Extends l.fn.parts.items l.parts.items;
  long : length l.parts.items ≡ length l.fn.parts.items + l.list-index;
  have : HaveParts (namespaces l.pil) (nodes_at l.programs.items) l.parts.items (length l.fn.parts.items) (take l.list-index (map tuples l.lists));
  known : AreKnown (namespaces l.pil) (nodes_at l.programs.items) l.parts.items;
  idle : AreIdle l.parts.items;
}
