use Rattle.std.proofs.Common.{◌≡◌, ◌++◌, map, take, codes, nat_eq}
use Rattle.pil_ast.specs.Tree.{tuples}
use Rattle.pil_print.specs.Statements.{tuple}
use Rattle.pil_print.specs.Printed.{tuple_text, separated}
use Rattle.pil_print.specs.Tables.{text_names}
use Rattle.pil_print.proofs.lists.write_lists.Given as goal

abbrev pub invariant-loop-list : goal.invariant-loop-list
invariant-loop-list l =
    record {
      written : l.text.items ≡ l.initial.text.items ++ separated (codes " + ") tuple_text (map (tuple (text_names l.names)) (map tuples (take l.list-index l.lists)));
      first : l.first ≡ nat_eq l.list-index 0;
    }
