use Rattle.std.proofs.Common.{ℕ, ◌<◌}
use Rattle.pil_ast.specs.Tree.{namespaces}
use Rattle.pil_ast.specs.Term.{item_at, space_at}
use Rattle.pil_program.specs.Publics.{NoneInItem}
use Rattle.pil_program.proofs.publics.names_no_public.Given as goal

abbrev pub invariant-loop-space : goal.invariant-loop-space
invariant-loop-space l = (s k : ℕ) → s < l.space-index → NoneInItem (item_at (space_at (namespaces l.pil) s).items k)
