use Rattle.std.proofs.Common.{◌≡◌, map, take}
use Rattle.pil_ast.specs.Tree.{line, namespace}
use Rattle.pil_print.specs.Statements.{published}
use Rattle.pil_print.proofs.tables.publics.Given as goal

abbrev pub invariant-loop-space : goal.invariant-loop-space
invariant-loop-space l = map (λ i. line i.now) l.found ≡ published (map namespace (take l.space-index l.spaces))
