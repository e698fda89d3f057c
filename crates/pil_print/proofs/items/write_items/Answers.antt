use Rattle.std.proofs.Common.{ℕ, List, ◌++◌, map, take, codes, sym, ap, ◌∙◌, arith}
use Rattle.std.specs.Prelude.{flat_map}
use Rattle.pil_ast.specs.Tree.{line}
use Rattle.pil_print.specs.Statements.{statement}
use Rattle.pil_print.specs.Printed.{sentence_text, line_text}
use Rattle.pil_print.specs.Tables.{text_names}
use Rattle.pil_print.proofs.Texts.{put, flat-more}
use Rattle.pil_print.proofs.items.write_items.Goals as goal

pub loop-item-preserved : goal.loop-item-preserved
loop-item-preserved c =
    let ns = text_names c.args.names.now in
    let xs = c.args.items.now in
    let i = c.loop-item.item-index in
    let x = c.item-item.result in
    put c.args.text.now.items (flat_map line_text (map (statement ns) (map line (take i xs)))) (sentence_text (statement ns (line x))) (codes ";\n") _ _ _
    c.loop-item.invariant c.in_ok-write_statement.ensures c.in_ok-end_line.ensures
    ∙ ap (λ (s : List ℕ). c.args.text.now.items ++ s) (sym (flat-more line_text (statement ns) line xs i x (omega arith) c.item-item.is))
