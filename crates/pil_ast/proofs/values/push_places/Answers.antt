use Rattle.std.proofs.Common.{◌≡◌, ◌<◌, ◌≤◌, ◌++◌, take, map, length, get_or, sym, ◌∙◌, ap, subst, append_assoc}
use Rattle.std.proofs.lemmas.List.{append-nil, length-map, take_all}
use Rattle.std.specs.List.{flat_map}
use Rattle.pil_ast.specs.Tree.{line}
use Rattle.pil_ast.specs.Term.{places_of}
use Rattle.pil_ast.proofs.Trees.{get_or-line, flat_map-more}
use Rattle.pil_ast.proofs.values.push_places.Goals as goal

pub loop-item-init : goal.loop-item-init
loop-item-init c = sym (append-nil c.args.places.now)

pub loop-item-preserved : goal.loop-item-preserved
loop-item-preserved c =
    let within : c.loop-item.item-index < length (map line c.args.items.now) = subst (λ n. c.loop-item.item-index < n) (sym (length-map c.args.items.now line)) c.loop-item-test.true in
    let here : get_or (map line c.args.items.now) c.loop-item.item-index (line c.item-item.result) ≡ line c.item-item.result = get_or-line c.args.items.now c.loop-item.item-index c.item-item.result (line c.item-item.result) c.loop-item-test.true c.item-item.is in
    c.in_ok-push_place.ensures ∙ ap (λ s. s ++ places_of (line c.item-item.result)) c.loop-item.invariant
    ∙ append_assoc c.args.places.now (flat_map places_of (take c.loop-item.item-index (map line c.args.items.now))) (places_of (line c.item-item.result))
    ∙ ap (λ s. c.args.places.now ++ s) (sym (flat_map-more places_of (map line c.args.items.now) c.loop-item.item-index (line c.item-item.result) within here))

pub returns : goal.returns
returns c =
    c.loop-item.invariant ∙ ap (λ s. c.args.places.now ++ flat_map places_of s) (take_all c.loop-item.item-index (map line c.args.items.now) (subst (λ n. n ≤ c.loop-item.item-index) (sym (length-map c.args.items.now line)) c.loop-item-test.false))
