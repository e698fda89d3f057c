use Rattle.pil_ast.specs.Tree.{namespaces}
use Rattle.pil_ast.proofs.Known.{PlansOf}
use Rattle.pil_ast.proofs.values.plans_of.Given as goal

abbrev pub invariant-loop-space : goal.invariant-loop-space
invariant-loop-space l = PlansOf (namespaces l.pil) l.space-index l.plans
