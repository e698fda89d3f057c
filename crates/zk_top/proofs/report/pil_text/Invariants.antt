use Rattle.std.proofs.Common.{◌≡◌, take}
use Rattle.pil_ast.specs.Tree.{namespaces}
use Rattle.zk_top.specs.Outcome.{pil_report}
use Rattle.zk_top.proofs.report.pil_text.Given as goal

-- the publics of the namespaces so far were written
abbrev pub invariant-loop-space : goal.invariant-loop-space
invariant-loop-space g l = l.text.items ≡ pil_report (take l.space-index (namespaces l.pil)) (g.C.Columns.values l.columns)
