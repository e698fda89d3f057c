use Rattle.std.proofs.Common.{◌++◌, take, map, sym, ◌∙◌, ap}
use Rattle.std.proofs.lemmas.List.{take_all}
use Rattle.std.specs.List.{flat_map}
use Rattle.pil_ast.specs.Tree.{line, namespace, namespaces}
use Rattle.pil_ast.specs.Term.{Namespace, places_of, publics}
use Rattle.pil_ast.proofs.Trees.{namespace-here, spaces-within, spaces-past, flat_map-more}
use Rattle.pil_ast.proofs.values.places_of.Goals as goal

pub loop-space-init : goal.loop-space-init
loop-space-init c = c.new-places.ensures

pub loop-space-preserved : goal.loop-space-preserved
loop-space-preserved c =
    let within = spaces-within c.args.pil.now.spaces c.as_slice-space-items.result.now c.loop-space.space-index c.as_slice-space-items.ensures c.loop-space-test.true in
    let here = namespace-here c.args.pil.now.spaces c.as_slice-space-items.result.now c.loop-space.space-index c.space-item.result (namespace c.space-item.result) c.as_slice-space-items.ensures c.loop-space-test.true c.space-item.is in
    c.in_ok-push_places.ensures ∙ ap (λ s. s ++ flat_map places_of (map line c.as_slice.result.now)) c.loop-space.invariant
    ∙ ap (λ s. publics (take c.loop-space.space-index (namespaces c.args.pil.now)) ++ flat_map places_of (map line s)) c.as_slice.ensures
    ∙ sym (flat_map-more (λ (n : Namespace). flat_map places_of n.items) (namespaces c.args.pil.now) c.loop-space.space-index (namespace c.space-item.result) within here)

pub returns : goal.returns
returns c =
    c.loop-space.invariant ∙ ap publics (take_all c.loop-space.space-index (namespaces c.args.pil.now) (spaces-past c.args.pil.now.spaces c.as_slice-space-items.result.now c.loop-space.space-index c.as_slice-space-items.ensures c.loop-space-test.false))
