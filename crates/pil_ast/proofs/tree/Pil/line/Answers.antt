use Rattle.std.proofs.Common.{◌≡◌, ◌<◌, ◌-◌, length, sym, ◌∙◌, ap, subst, arith}
use Rattle.std.proofs.lemmas.List.{length-map, take_all}
use Rattle.std.proofs.lemmas.Option.{slice_get_past}
use Rattle.pil_ast.specs.Tree.{line, namespaces}
use Rattle.pil_ast.specs.Term.{space_at}
use Rattle.pil_ast.specs.Holds.{lines}
use Rattle.pil_ast.proofs.Trees.{space-here, spaces-within, spaces-past}
use Rattle.pil_ast.proofs.Limits.{few_items, few_enough, lines-counted, line-at}
use Rattle.pil_ast.proofs.tree.Pil.line.Goals as goal

pub loop-space-init : goal.loop-space-init
loop-space-init c = omega arith

pub line_count-here-requires : goal.line_count-here-requires
line_count-here-requires c =
    let within = spaces-within c.args.self.now.spaces c.as_slice-space-items.result.now c.loop-space.space-index c.as_slice-space-items.ensures c.loop-space-test.true in
    let here = space-here c.args.self.now.spaces c.as_slice-space-items.result.now c.loop-space.space-index c.space-item.result c.as_slice-space-items.ensures c.loop-space-test.true c.space-item.is in
    let long : length c.as_slice-items.result.now ≡ length (space_at (namespaces c.args.self.now) c.loop-space.space-index).items = ap length c.as_slice-items.ensures ∙ sym (length-map c.space-item.result.items line) ∙ sym (ap (λ n. length n.items) here) in
    few_enough (length c.as_slice-items.result.now) (length (space_at (namespaces c.args.self.now) c.loop-space.space-index).items) long (few_items (namespaces c.args.self.now) c.loop-space.space-index c.requires.sound within)

pub returns-then-before-here : goal.returns-then-before-here
returns-then-before-here c =
    let fits = subst (λ n. c.loop-space.before < n) c.line_count-here.ensures c.if-before-here.true in
    line-at c.args.self.now.spaces c.as_slice-space-items.result.now c.loop-space.space-index c.space-item.result c.as_slice-items.result.now c.loop-space.before (c.args.number - 1) _ c.as_slice-space-items.ensures c.loop-space-test.true c.space-item.is c.as_slice-items.ensures fits c.loop-space.invariant c.line_in.ensures

pub loop-space-preserved : goal.loop-space-preserved
loop-space-preserved c =
    let counted = lines-counted c.args.self.now.spaces c.as_slice-space-items.result.now c.loop-space.space-index c.space-item.result c.as_slice-items.result.now c.line_count-here.result c.as_slice-space-items.ensures c.loop-space-test.true c.space-item.is c.as_slice-items.ensures c.line_count-here.ensures in
    omega (arith, c.loop-space.invariant, counted, c.if-before-here.false)

pub returns : goal.returns
returns c =
    let all = ap (λ s. length (lines s)) (take_all c.loop-space.space-index (namespaces c.args.self.now) (spaces-past c.args.self.now.spaces c.as_slice-space-items.result.now c.loop-space.space-index c.as_slice-space-items.ensures c.loop-space-test.false)) in
    sym (slice_get_past (lines (namespaces c.args.self.now)) (c.args.number - 1) (omega (arith, c.loop-space.invariant, all)))
