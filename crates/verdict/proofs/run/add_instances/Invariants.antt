use Rattle.pil_ast.specs.Tree.{namespaces}
use Rattle.verdict.proofs.Added.{Instances}
use Rattle.verdict.proofs.run.add_instances.Given as goal

abbrev pub invariant-loop-instance : goal.invariant-loop-instance
invariant-loop-instance g l = Instances (namespaces l.pil) (g.C.Columns.values l.columns) l.space l.instance l.fn.checker l.checker
