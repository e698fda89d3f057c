use Rattle.std.proofs.Common.{ℕ, List, [], ◌++◌, cond, map, take, codes, sym, ap, ◌∙◌, arith}
use Rattle.pil_ast.specs.Tree.{term}
use Rattle.pil_print.specs.Statements.{expression}
use Rattle.pil_print.specs.Printed.{term_text, separated}
use Rattle.pil_print.specs.Tables.{text_names}
use Rattle.pil_print.proofs.Texts.{put, separated-more}
use Rattle.std.proofs.lemmas.Grind.{common_steps}
use Rattle.pil_print.proofs.lists.write_exprs.Goals as goal

pub loop-expr-preserved : goal.loop-expr-preserved
loop-expr-preserved c =
    let ns = text_names c.args.names.now in
    let xs = c.args.exprs.now in
    let i = c.loop-expr.expr-index in
    let x = c.expr-item.result in
    record {
      written = put c.args.text.now.items (separated (codes ", ") term_text (map (expression ns) (map term (take i xs)))) (cond c.loop-expr.first [] (codes ", ")) (term_text (expression ns (term x))) _ _ _
          c.loop-expr.invariant.written c.in_ok-separate.ensures c.in_ok-write_expr.ensures
          ∙ ap (λ (s : List ℕ). c.args.text.now.items ++ s) (sym (separated-more (codes ", ") term_text (expression ns) term xs i x c.loop-expr.first (omega arith) c.expr-item.is c.loop-expr.invariant.first));
      first = grind (arith, common_steps);
    }
