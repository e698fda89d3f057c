use Rattle.std.proofs.Common.{inl, inr, map, length, subst, sym, arith}
use Rattle.std.proofs.lemmas.Bool.{cases_eq}
use Rattle.pil_ast.specs.Tree.{line}
use Rattle.pil_cycles.specs.Paths.{NamesAt}
use Rattle.pil_cycles.specs.Finish.{IsFound}
use Rattle.pil_cycles.proofs.Steps.{search-end}
use Rattle.pil_cycles.proofs.finish.visit_all.Goals as goal

pub loop-root-preserved : goal.loop-root-preserved
loop-root-preserved c = (
  c.in_ok-visit.ensures.search,
  λ k l. elim (cases_eq k c.loop-root.root) as (λ u. IsFound c.visit.new.found k) [
    | inl e ↦ subst (λ x. IsFound c.visit.new.found x) (sym e) c.in_ok-visit.ensures.found
    | inr ne ↦ c.in_ok-visit.ensures.keeps k (c.loop-root.invariant.1 k (omega arith))
  ],
)

pub returns : goal.returns
returns c = search-end (NamesAt (map line c.args.items.now)) (length c.args.items.now) _ _ c.loop-root.invariant.0 (λ k l. c.loop-root.invariant.1 k (omega arith))
