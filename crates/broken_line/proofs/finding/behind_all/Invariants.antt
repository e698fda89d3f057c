use Rattle.std.proofs.Common.{◌≡◌, drop, map}
use Rattle.pil_ast.specs.Tree.{namespace}
use Rattle.broken_line.specs.Texts.{behind_spaces}
use Rattle.broken_line.proofs.finding.behind_all.Given as goal

-- what follows the namespaces so far, and those that are left
abbrev pub invariant-loop-space : goal.invariant-loop-space
invariant-loop-space l = behind_spaces (map namespace (drop l.space-index l.spaces)) l.rest ≡ behind_spaces (map namespace l.spaces) l.text
