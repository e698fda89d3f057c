use Rattle.std.proofs.Common.{◌≡◌, [], map, length, replicate, sym, ◌∙◌, ap, subst}
use Rattle.std.proofs.lemmas.List.{length-map}
use Rattle.std.proofs.lemmas.List.{length-replicate}
use Rattle.pil_ast.specs.declared.order.State.TheVariants.{New}
use Rattle.pil_ast.specs.Tree.{line}
use Rattle.pil_ast.specs.Order.{IsSearch}
use Rattle.pil_ast.proofs.Search.{search-begin}
use Rattle.pil_ast.proofs.order.evaluation_order.Goals as goal

pub visit_all-requires-clause-search : goal.visit_all-requires-clause-search
visit_all-requires-clause-search c =
    let long : length (map line c.args.items.now) ≡ length c.args.items.now = length-map c.args.items.now line in
    let same : c.deref_mut.result.now ≡ replicate (length (map line c.args.items.now)) New =
    c.deref_mut.ensures.value ∙ c.in_ok-states.ensures.items_if_clones_equal (λ y e. e) ∙ ap (λ n. replicate n New) (sym long) in
    subst (λ o. IsSearch (map line c.args.items.now) c.deref_mut.result.now [] o) (sym c.new-order.ensures)
    (search-begin (map line c.args.items.now) c.deref_mut.result.now same (ap length same ∙ length-replicate (length (map line c.args.items.now)) New))
