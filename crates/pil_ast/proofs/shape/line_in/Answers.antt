use Rattle.std.proofs.Common.{List, length, filter, sym, ap, arith}
use Rattle.std.proofs.lemmas.List.{take_all}
use Rattle.std.proofs.lemmas.Option.{slice_get_past}
use Rattle.pil_ast.specs.declared.tree.Item.{Item}
use Rattle.pil_ast.specs.Tree.{line}
use Rattle.pil_ast.specs.Term.{is_line}
use Rattle.pil_ast.proofs.Limits.{line-found, line-passed}
use Rattle.pil_ast.proofs.shape.line_in.Goals as goal

pub loop-item-init : goal.loop-item-init
loop-item-init c = omega arith

pub returns-then-before-here : goal.returns-then-before-here
returns-then-before-here c =
    line-found c.args.items.now c.loop-item.item-index c.item-item.result c.loop-item.before c.lines_of_item-here.result c.args.number c.loop-item-test.true c.item-item.is c.lines_of_item-here.ensures c.if-before-here.true c.loop-item.invariant

pub loop-item-preserved : goal.loop-item-preserved
loop-item-preserved c =
    line-passed c.args.items.now c.loop-item.item-index c.item-item.result c.loop-item.before c.lines_of_item-here.result c.args.number c.loop-item-test.true c.item-item.is c.lines_of_item-here.ensures c.if-before-here.false c.loop-item.invariant

pub returns : goal.returns
returns c =
    let all = ap (λ (s : List Item). length (filter (λ item. is_line (line item)) s)) (take_all c.loop-item.item-index c.args.items.now c.loop-item-test.false) in
    sym (slice_get_past (filter (λ item. is_line (line item)) c.args.items.now) c.args.number (omega (arith, c.loop-item.invariant, all)))
