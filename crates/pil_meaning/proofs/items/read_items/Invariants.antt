use Rattle.std.proofs.Common.{◌≡◌, map, take}
use Rattle.pil_ast.specs.Tree.{line}
use Rattle.pil_names.specs.Shown.{outlined, draft}
use Rattle.pil_meaning.specs.Meaning.{read_draft}
use Rattle.pil_meaning.proofs.items.read_items.Given as goal

abbrev pub invariant-loop-item : goal.invariant-loop-item
invariant-loop-item l = map line l.read ≡ map (λ d. read_draft (outlined l.outline) l.home (draft d)) (take l.item-index l.items)
