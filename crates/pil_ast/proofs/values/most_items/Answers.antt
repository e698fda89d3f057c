use Rattle.std.proofs.Common.{◌≡◌, ◌≤◌, inl, inr, length, sym, ◌∙◌, ap, subst, arith}
use Rattle.std.proofs.lemmas.Bool.{cases_eq}
use Rattle.std.proofs.lemmas.List.{length-map}
use Rattle.pil_ast.specs.Tree.{line, namespaces}
use Rattle.pil_ast.specs.Term.{space_at}
use Rattle.pil_ast.proofs.Trees.{space-here, spaces-past}
use Rattle.pil_ast.proofs.values.most_items.Goals as goal

pub loop-space-preserved : goal.loop-space-preserved
loop-space-preserved c = λ s l. elim (cases_eq s c.loop-space.space-index) [
  | inl e ↦
      let here = space-here c.args.pil.now.spaces c.as_slice-space-items.result.now c.loop-space.space-index c.space-item.result c.as_slice-space-items.ensures c.loop-space-test.true c.space-item.is in
      let long : length (space_at (namespaces c.args.pil.now) s).items ≡ c.len.result = ap (λ i. length (space_at (namespaces c.args.pil.now) i).items) e ∙ ap (λ n. length n.items) here ∙ length-map c.space-item.result.items line ∙ sym c.len.ensures in
      subst (λ n. n ≤ c.larger-most.result) (sym long) c.larger-most.ensures.second
  | inr ne ↦
      let before : length (space_at (namespaces c.args.pil.now) s).items ≤ c.loop-space.most = c.loop-space.invariant s (omega arith) in
      omega (arith, before, c.larger-most.ensures.first)
]

pub returns : goal.returns
returns c = λ s l. c.loop-space.invariant s
    (let past : length (namespaces c.args.pil.now) ≤ c.loop-space.space-index = spaces-past c.args.pil.now.spaces c.as_slice-space-items.result.now c.loop-space.space-index c.as_slice-space-items.ensures c.loop-space-test.false in
    omega arith)
