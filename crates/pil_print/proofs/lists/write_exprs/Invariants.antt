use Rattle.std.proofs.Common.{◌≡◌, ◌++◌, map, take, codes, nat_eq}
use Rattle.pil_ast.specs.Tree.{term}
use Rattle.pil_print.specs.Statements.{expression}
use Rattle.pil_print.specs.Printed.{term_text, separated}
use Rattle.pil_print.specs.Tables.{text_names}
use Rattle.pil_print.proofs.lists.write_exprs.Given as goal

abbrev pub invariant-loop-expr : goal.invariant-loop-expr
invariant-loop-expr l =
    record {
      written : l.text.items ≡ l.initial.text.items ++ separated (codes ", ") term_text (map (expression (text_names l.names)) (map term (take l.expr-index l.exprs)));
      first : l.first ≡ nat_eq l.expr-index 0;
    }
