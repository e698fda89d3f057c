use Rattle.std.proofs.Common.{◌≡◌, ◌<◌, map, take, ◌^◌, refl, sym, ◌∙◌, ap, subst}
use Rattle.std.proofs.lemmas.List.{take_all}
use Rattle.pil_ast.specs.Tree.{line, namespace, namespaces}
use Rattle.pil_ast.specs.Term.{width}
use Rattle.pil_ast.proofs.Trees.{space-here, namespace-here, spaces-within, spaces-past}
use Rattle.pil_ast.proofs.Limits.{few_columns, width-map}
use Rattle.std.proofs.Common.{◌++◌, ◌∷◌, []}
use Rattle.std.proofs.lemmas.List.{take_more, map-append}
use Rattle.pil_ast.specs.Shape.{air_shape}
use Rattle.pil_ast.proofs.tree.Pil.shape.Goals as goal

pub loop-space-init : goal.loop-space-init
loop-space-init c = c.new-airs.ensures

pub width_of-requires : goal.width_of-requires
width_of-requires c =
    let within = spaces-within c.args.self.now.spaces c.as_slice-space-items.result.now c.loop-space.space-index c.as_slice-space-items.ensures c.loop-space-test.true in
    let here = space-here c.args.self.now.spaces c.as_slice-space-items.result.now c.loop-space.space-index c.space-item.result c.as_slice-space-items.ensures c.loop-space-test.true c.space-item.is in
    subst (λ n. n < 2 ^ 32) (ap (λ n. width n.items) here ∙ ap (λ s. width (map line s)) (sym c.as_slice.ensures) ∙ width-map c.as_slice.result.now) (few_columns (namespaces c.args.self.now) c.loop-space.space-index c.requires within)

pub loop-space-preserved : goal.loop-space-preserved
loop-space-preserved c =
    let within = spaces-within c.args.self.now.spaces c.as_slice-space-items.result.now c.loop-space.space-index c.as_slice-space-items.ensures c.loop-space-test.true in
    let here = namespace-here c.args.self.now.spaces c.as_slice-space-items.result.now c.loop-space.space-index c.space-item.result (namespace c.space-item.result) c.as_slice-space-items.ensures c.loop-space-test.true c.space-item.is in
    let columns : c.width_of.result ≡ width (namespace c.space-item.result).items = c.width_of.ensures ∙ sym (width-map c.as_slice.result.now) ∙ ap (λ s. width (map line s)) c.as_slice.ensures in
    c.in_ok-push.ensures.ok ∙ ap (λ s. s ++ record { rows = c.space-item.result.rows; columns = c.width_of.result; most = 2 ^ 20 } ∷ []) c.loop-space.invariant
    ∙ ap (λ w. map air_shape (take c.loop-space.space-index (namespaces c.args.self.now)) ++ record { rows = c.space-item.result.rows; columns = w; most = 2 ^ 20 } ∷ []) columns
    ∙ sym (ap (map air_shape) (take_more (namespaces c.args.self.now) c.loop-space.space-index (namespace c.space-item.result) within ∙ ap (λ n. take c.loop-space.space-index (namespaces c.args.self.now) ++ n ∷ []) here)
    ∙ map-append air_shape (take c.loop-space.space-index (namespaces c.args.self.now)) (namespace c.space-item.result ∷ []))

pub returns : goal.returns
returns c =
    (c.loop-space.invariant ∙ ap (map air_shape) (take_all c.loop-space.space-index (namespaces c.args.self.now) (spaces-past c.args.self.now.spaces c.as_slice-space-items.result.now c.loop-space.space-index c.as_slice-space-items.ensures c.loop-space-test.false)), refl)
