use Rattle.std.proofs.Common.{[], map, length, sym, ◌∙◌, subst}
use Rattle.pil_ast.specs.Tree.{line}
use Rattle.pil_cycles.specs.Paths.{NamesAt}
use Rattle.pil_cycles.specs.Finish.{IsVisit}
use Rattle.pil_cycles.proofs.Steps.{search-begin}
use Rattle.pil_cycles.proofs.finish.finished.Goals as goal

pub visit_all-requires-clause-search : goal.visit_all-requires-clause-search
visit_all-requires-clause-search c =
    subst (λ o. IsVisit (NamesAt (map line c.args.items.now)) (length c.args.items.now) c.deref_mut.result.now [] o) (sym c.new-order.ensures)
    (search-begin (NamesAt (map line c.args.items.now)) (length c.args.items.now) c.deref_mut.result.now (c.deref_mut.ensures.value ∙ c.in_ok-found.ensures.items_if_clones_equal (λ y e. e)))
