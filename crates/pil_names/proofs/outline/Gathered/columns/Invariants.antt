use Rattle.std.proofs.Common.{◌≡◌, List, map, drop}
use Rattle.pil_syntax.specs.Tree.{Sentence}
use Rattle.pil_names.specs.Outline.{column}
use Rattle.pil_names.specs.Gathering.{outline_with}
use Rattle.pil_names.proofs.outline.Gathered.columns.Given as goal

abbrev pub invariant-loop-declaration : goal.invariant-loop-declaration
invariant-loop-declaration l = (ss : List Sentence) → outline_with l.self (map (column l.kind) (drop l.declaration-index l.declarations)) ss ≡ outline_with l.fn.self (map (column l.kind) l.declarations) ss
