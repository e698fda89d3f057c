use Rattle.std.proofs.Common.{◌≡◌, map, take, sum_by}
use Rattle.pil_ast.specs.Tree.{line}
use Rattle.pil_ast.specs.Term.{columns_of}
use Rattle.pil_print.specs.Tables.{firsts_from}
use Rattle.pil_print.proofs.tables.first_columns.Given as goal

abbrev pub invariant-loop-item : goal.invariant-loop-item
invariant-loop-item l =
    record {
      firsts : l.firsts ≡ firsts_from 0 (map (λ i. line i.now) (take l.item-index l.items));
      columns : l.columns ≡ sum_by (λ i. columns_of (line i.now)) (take l.item-index l.items);
    }
