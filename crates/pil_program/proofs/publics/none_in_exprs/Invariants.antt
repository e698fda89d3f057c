use Rattle.std.proofs.Common.{ℕ, ◌<◌, length, get_or}
use Rattle.pil_ast.specs.Tree.{term}
use Rattle.pil_ast.specs.Term.{Term}
use Rattle.pil_program.specs.Publics.{NoPublic}
use Rattle.std.proofs.Common.{map}
use Rattle.pil_program.proofs.publics.none_in_exprs.Given as goal

abbrev pub invariant-loop-expr : goal.invariant-loop-expr
invariant-loop-expr l = (k : ℕ) (d : Term) → k < l.expr-index → NoPublic (get_or (map term l.exprs) k d)
