use Rattle.std.proofs.Common.{◌≡◌, ◌++◌, take, map}
use Rattle.std.specs.List.{flat_map}
use Rattle.pil_ast.specs.Tree.{line}
use Rattle.zk_top.specs.Outcome.{public_line}
use Rattle.zk_top.proofs.report.push_publics.Given as goal

-- the publics so far were written
abbrev pub invariant-loop-item : goal.invariant-loop-item
invariant-loop-item g l = l.text.items ≡ l.fn.text.items ++ flat_map (public_line (g.C.Columns.values l.columns)) (take l.item-index (map line l.items))
