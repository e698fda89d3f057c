use Rattle.std.proofs.Common.{ℕ, ◌<◌, length, get_or}
use Rattle.pil_ast.specs.Tree.{tuples}
use Rattle.pil_ast.specs.Term.{Tuples}
use Rattle.pil_program.specs.Publics.{NoneInList}
use Rattle.std.proofs.Common.{map}
use Rattle.pil_program.proofs.publics.none_in_lists.Given as goal

abbrev pub invariant-loop-list : goal.invariant-loop-list
invariant-loop-list l = (k : ℕ) (d : Tuples) → k < l.list-index → NoneInList (get_or (map tuples l.lists) k d)
