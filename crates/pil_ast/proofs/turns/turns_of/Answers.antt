use Rattle.std.proofs.Common.{◌≡◌, map, length, get_or, sym, ◌∙◌}
use Rattle.std.proofs.lemmas.Grind.{get_or_default_zero}
use Rattle.std.proofs.lemmas.List.{length-map}
use Rattle.pil_ast.specs.Tree.{line}
use Rattle.pil_ast.proofs.Plans.{plans-none, plans-more, plans-all}
use Rattle.pil_ast.proofs.turns.turns_of.Goals as goal

pub loop-item-init : goal.loop-item-init
loop-item-init c = plans-none _ _ _ _ c.new-turns.ensures

pub loop-item-preserved : goal.loop-item-preserved
loop-item-preserved c =
    let long : length c.loop-item.marks ≡ length (map line c.args.items.now) = c.loop-item.auto.marks ∙ c.requires.long ∙ sym (length-map c.args.items.now line) in
    plans-more _ c.args.order.now c.loop-item.item-index (get_or c.args.order.now c.loop-item.item-index 0) c.loop-item.turns c.push.new.self c.loop-item.marks c.item_has_mark-marked.result c.requires.acyclic c.requires.order.ordered long c.loop-item.invariant c.loop-item-test.true
    (sym (get_or_default_zero c.args.order.now c.loop-item.item-index (get_or c.args.order.now c.loop-item.item-index 0) c.loop-item-test.true)) c.item_has_mark-marked.ensures c.in_ok-push.ensures.ok

pub returns : goal.returns
returns c = plans-all _ c.args.order.now c.loop-item.item-index c.loop-item.turns c.loop-item.marks c.requires.order c.loop-item.invariant c.loop-item-test.false
