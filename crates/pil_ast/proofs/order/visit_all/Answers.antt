use Rattle.std.proofs.Common.{ℕ, ◌≢◌, inl, inr, map, Some, slice_get, subst, sym, arith}
use Rattle.std.proofs.lemmas.Bool.{cases_eq}
use Rattle.std.proofs.lemmas.List.{length-map}
use Rattle.pil_ast.specs.declared.order.State.TheVariants.{New}
use Rattle.pil_ast.specs.Tree.{line}
use Rattle.pil_ast.specs.Term.{item_at}
use Rattle.pil_ast.specs.Sound.{IsInter}
use Rattle.pil_ast.proofs.Search.{found_all}
use Rattle.pil_ast.proofs.order.visit_all.Goals as goal

pub loop-root-preserved : goal.loop-root-preserved
loop-root-preserved c = (
  c.in_ok-visit.ensures.search,
  λ k l is. elim (cases_eq k c.loop-root.root) [
    | inl e ↦
        let P : ℕ → Type 0 = λ i. IsInter (item_at (map line c.args.items.now) i) → slice_get c.visit.new.states i ≢ Some New in
        subst P (sym e) c.in_ok-visit.ensures.found is
    | inr ne ↦ c.in_ok-visit.ensures.keeps k (c.loop-root.invariant.1 k (omega arith) is)
  ],
)

pub returns : goal.returns
returns c = found_all _ _ _ c.loop-root.invariant.0 (λ k l. c.loop-root.invariant.1 k (omega (arith, length-map c.args.items.now line)))
