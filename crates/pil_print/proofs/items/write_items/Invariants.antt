use Rattle.std.proofs.Common.{◌≡◌, ◌++◌, map, take}
use Rattle.std.specs.Prelude.{flat_map}
use Rattle.pil_ast.specs.Tree.{line}
use Rattle.pil_print.specs.Statements.{statement}
use Rattle.pil_print.specs.Printed.{line_text}
use Rattle.pil_print.specs.Tables.{text_names}
use Rattle.pil_print.proofs.items.write_items.Given as goal

abbrev pub invariant-loop-item : goal.invariant-loop-item
invariant-loop-item l = l.text.items ≡ l.initial.text.items ++ flat_map line_text (map (statement (text_names l.names)) (map line (take l.item-index l.items)))
