use Rattle.std.proofs.Common.{ℕ, List, [], ◌++◌, cond, map, take, codes, sym, ap, ◌∙◌, arith}
use Rattle.pil_ast.specs.Tree.{tuples}
use Rattle.pil_print.specs.Statements.{tuple}
use Rattle.pil_print.specs.Printed.{tuple_text, separated}
use Rattle.pil_print.specs.Tables.{text_names}
use Rattle.pil_print.proofs.Texts.{put, separated-more}
use Rattle.std.proofs.lemmas.Grind.{common_steps}
use Rattle.pil_print.proofs.lists.write_lists.Goals as goal

pub loop-list-preserved : goal.loop-list-preserved
loop-list-preserved c =
    let ns = text_names c.args.names.now in
    let xs = c.args.lists.now in
    let i = c.loop-list.list-index in
    let x = c.list-item.result in
    record {
      written = put c.args.text.now.items (separated (codes " + ") tuple_text (map (tuple ns) (map tuples (take i xs)))) (cond c.loop-list.first [] (codes " + ")) (tuple_text (tuple ns (tuples x))) _ _ _
          c.loop-list.invariant.written c.in_ok-separate.ensures c.in_ok-write_list.ensures
          ∙ ap (λ (s : List ℕ). c.args.text.now.items ++ s) (sym (separated-more (codes " + ") tuple_text (tuple ns) tuples xs i x c.loop-list.first (omega arith) c.list-item.is c.loop-list.invariant.first));
      first = grind (arith, common_steps);
    }
