use Rattle.std.proofs.Common.{◌≡◌, ◌+◌, length, sym, ◌∙◌, ap, arith}
use Rattle.std.proofs.lemmas.List.{length-map, take_all}
use Rattle.pil_ast.specs.Tree.{line, namespaces}
use Rattle.pil_ast.specs.Term.{space_at}
use Rattle.pil_ast.specs.Holds.{lines}
use Rattle.pil_ast.proofs.Trees.{space-here, spaces-within, spaces-past}
use Rattle.pil_ast.proofs.Limits.{few_items, few_enough, few_lines, lines-counted}
use Rattle.pil_ast.proofs.tree.Pil.lines.Goals as goal

pub line_count-lines-requires : goal.line_count-lines-requires
line_count-lines-requires c =
    let within = spaces-within c.args.self.now.spaces c.as_slice-space-items.result.now c.loop-space.space-index c.as_slice-space-items.ensures c.loop-space-test.true in
    let here = space-here c.args.self.now.spaces c.as_slice-space-items.result.now c.loop-space.space-index c.space-item.result c.as_slice-space-items.ensures c.loop-space-test.true c.space-item.is in
    let long : length c.as_slice.result.now ≡ length (space_at (namespaces c.args.self.now) c.loop-space.space-index).items = ap length c.as_slice.ensures ∙ sym (length-map c.space-item.result.items line) ∙ sym (ap (λ n. length n.items) here) in
    few_enough (length c.as_slice.result.now) (length (space_at (namespaces c.args.self.now) c.loop-space.space-index).items) long (few_items (namespaces c.args.self.now) c.loop-space.space-index c.requires within)

pub overflow_add-lines : goal.overflow_add-lines
overflow_add-lines c =
    let counted = lines-counted c.args.self.now.spaces c.as_slice-space-items.result.now c.loop-space.space-index c.space-item.result c.as_slice.result.now c.line_count-lines.result c.as_slice-space-items.ensures c.loop-space-test.true c.space-item.is c.as_slice.ensures c.line_count-lines.ensures in
    let few = few_lines (namespaces c.args.self.now) (c.loop-space.space-index + 1) c.requires in
    omega (arith, c.loop-space.invariant, counted, few)

pub loop-space-preserved : goal.loop-space-preserved
loop-space-preserved c =
    ap (λ n. n + c.line_count-lines.result) c.loop-space.invariant
    ∙ lines-counted c.args.self.now.spaces c.as_slice-space-items.result.now c.loop-space.space-index c.space-item.result c.as_slice.result.now c.line_count-lines.result c.as_slice-space-items.ensures c.loop-space-test.true c.space-item.is c.as_slice.ensures c.line_count-lines.ensures

pub returns : goal.returns
returns c =
    c.loop-space.invariant ∙ ap (λ s. length (lines s)) (take_all c.loop-space.space-index (namespaces c.args.self.now) (spaces-past c.args.self.now.spaces c.as_slice-space-items.result.now c.loop-space.space-index c.as_slice-space-items.ensures c.loop-space-test.false))
