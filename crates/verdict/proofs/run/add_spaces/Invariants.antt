use Rattle.pil_ast.specs.Tree.{namespaces}
use Rattle.verdict.proofs.Added.{Spaces}
use Rattle.verdict.proofs.run.add_spaces.Given as goal

abbrev pub invariant-loop-space : goal.invariant-loop-space
invariant-loop-space g l = Spaces (namespaces l.pil) (g.C.Columns.values l.columns) l.space l.fn.checker l.checker
