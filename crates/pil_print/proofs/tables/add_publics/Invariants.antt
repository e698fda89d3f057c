use Rattle.std.proofs.Common.{◌≡◌, ◌++◌, map, filter, take}
use Rattle.pil_ast.specs.Tree.{line}
use Rattle.pil_print.specs.Statements.{is_public}
use Rattle.pil_print.proofs.tables.add_publics.Given as goal

abbrev pub invariant-loop-item : goal.invariant-loop-item
invariant-loop-item l = map (λ i. line i.now) l.found ≡ map (λ i. line i.now) l.initial.found ++ filter is_public (map line (take l.item-index l.items))
