use Rattle.std.proofs.Common.{map}
use Rattle.pil_ast.specs.Tree.{line}
use Rattle.pil_cycles.proofs.Added.{AreUsersBelow}
use Rattle.pil_cycles.proofs.users.users_of.Given as goal

abbrev pub invariant-loop-item : goal.invariant-loop-item
invariant-loop-item l = AreUsersBelow (map line l.items) l.item l.users.items
