use Rattle.std.proofs.Common.{◌≡◌, map, take}
use Rattle.pil_syntax.specs.Shown.{tuple}
use Rattle.pil_ast.specs.Tree.{tuples}
use Rattle.pil_names.specs.Shown.{outlined}
use Rattle.pil_meaning.specs.Meaning.{read_tuple}
use Rattle.pil_meaning.proofs.items.read_lists.Given as goal

abbrev pub invariant-loop-list : goal.invariant-loop-list
invariant-loop-list l = map tuples l.read ≡ map (λ k. read_tuple (outlined l.outline) l.home (tuple k)) (take l.list-index l.lists)
