use Rattle.std.proofs.Common.{◌≡◌, ◌≢◌, ◌<◌, ◌+◌, [], ◌∷◌, ◌++◌, map, length, sym, ◌∙◌, ap, arith, length-append}
use Rattle.std.proofs.lemmas.List.{length-map}
use Rattle.pil_ast.specs.declared.order.State.TheVariants.{New, Open, Done}
use Rattle.pil_ast.specs.Tree.{line}
use Rattle.pil_ast.specs.Term.{inter_at}
use Rattle.pil_ast.proofs.Search.{opens, closes, named_low, named_new, slice_get-set_same, keeps_set, new_count-open, new_count-done, top_inside, found_set}
use Rattle.pil_ast.proofs.Parts.{names_weaker}
use Rattle.pil_ast.proofs.order.visit.Goals as goal

pub loop-item-init : goal.loop-item-init
loop-item-init c =
    let root : c.args.root < length (map line c.args.items.now) = omega (arith, length-map c.args.items.now line) in
    let fits : c.args.root < length c.args.states.now = omega (arith, c.requires.search.long) in
    let ne : Open ≢ New = λ e. cc in
    let same : c.push.new.self ≡ [] ++ c.args.root ∷ [] = c.in_ok-push.ensures.ok ∙ ap (λ s. s ++ c.args.root ∷ []) c.new-stack.ensures in (
      opens _ c.args.states.now [] c.push.new.self c.args.order.now c.args.root c.requires.search same root (λ rank ranked j d l. absurd (omega arith)),
      keeps_set c.args.states.now c.args.states.now c.args.root Open ne (λ k h. h) fits,
      λ e. ne (cc (slice_get-set_same c.args.states.now c.args.root Open fits)),
    )

pub open_in_item-requires : goal.open_in_item-requires
open_in_item-requires c =
    names_weaker (λ k. k < length (map line c.args.items.now)) (λ k. k < length c.loop-item.states) (λ k l. omega (arith, c.loop-item.invariant.0.long)) (inter_at (map line c.args.items.now) c.in-Some.item) (c.requires.inside c.in-Some.item)

pub loop-item-smaller-in-Continue-branch-3 : goal.loop-item-smaller-in-Continue-branch-3
loop-item-smaller-in-Continue-branch-3 c =
    let found = c.in-Some-open_in_item.ensures in
    let new = named_new _ _ _ _ _ c.in-Some.item c.in-Some-open_in_item.named c.requires.acyclic c.loop-item.invariant.0 c.in-Some.ensures found.0 found.1 found.2 in
    let fewer = new_count-open c.loop-item.states c.in-Some-open_in_item.named new in
    let size : length c.loop-item.stack ≡ length c.pop.new.self + 1 = ap length c.in-Some.ensures ∙ length-append c.pop.new.self (c.in-Some.item ∷ []) in
    let size' : length c.push-in-Some-open_in_item.new.self ≡ length c.pop.new.self + 1 = ap length c.in_ok-push-in-Some-open_in_item.ensures.ok ∙ length-append c.pop.new.self (c.in-Some.item ∷ []) in
    let size'' : length c.push-in-Some-open_in_item-2.new.self ≡ length c.push-in-Some-open_in_item.new.self + 1 = ap length c.in_ok-push-in-Some-open_in_item-2.ensures.ok ∙ length-append c.push-in-Some-open_in_item.new.self (c.in-Some-open_in_item.named ∷ []) in
    omega arith

pub loop-item-preserved-in-Continue-branch-3 : goal.loop-item-preserved-in-Continue-branch-3
loop-item-preserved-in-Continue-branch-3 c =
    let found = c.in-Some-open_in_item.ensures in
    let ne : Open ≢ New = λ e. cc in
    let same : c.push-in-Some-open_in_item-2.new.self ≡ c.loop-item.stack ++ c.in-Some-open_in_item.named ∷ [] =
    c.in_ok-push-in-Some-open_in_item-2.ensures.ok ∙ ap (λ s. s ++ c.in-Some-open_in_item.named ∷ []) (c.in_ok-push-in-Some-open_in_item.ensures.ok ∙ sym c.in-Some.ensures) in (
      opens _ c.loop-item.states c.loop-item.stack c.push-in-Some-open_in_item-2.new.self c.loop-item.order c.in-Some-open_in_item.named c.loop-item.invariant.0 same (omega (arith, c.loop-item.invariant.0.long))
          (named_low _ c.loop-item.states c.loop-item.stack c.pop.new.self c.loop-item.order c.in-Some.item c.in-Some-open_in_item.named c.loop-item.invariant.0 c.in-Some.ensures found.0),
      keeps_set c.args.states.now c.loop-item.states c.in-Some-open_in_item.named Open ne c.loop-item.invariant.1 found.1,
      found_set c.loop-item.states c.in-Some-open_in_item.named c.args.root Open ne found.1 c.loop-item.invariant.2,
    )

pub bounds-states-item : goal.bounds-states-item
bounds-states-item c =
    let on : c.in-Some.item < length (map line c.args.items.now) = top_inside _ _ _ _ _ c.loop-item.invariant.0 c.in-Some.ensures in
    omega (arith, c.loop-item.invariant.0.long)

pub loop-item-smaller : goal.loop-item-smaller
loop-item-smaller c =
    let on : c.in-Some.item < length (map line c.args.items.now) = top_inside _ _ _ _ _ c.loop-item.invariant.0 c.in-Some.ensures in
    let size : length c.loop-item.stack ≡ length c.pop.new.self + 1 = ap length c.in-Some.ensures ∙ length-append c.pop.new.self (c.in-Some.item ∷ []) in
    let fewer = new_count-done c.loop-item.states c.in-Some.item (omega (arith, c.loop-item.invariant.0.long)) in
    omega arith

pub loop-item-preserved : goal.loop-item-preserved
loop-item-preserved c =
    let on : c.in-Some.item < length (map line c.args.items.now) = top_inside _ _ _ _ _ c.loop-item.invariant.0 c.in-Some.ensures in
    let fits : c.in-Some.item < length c.loop-item.states = omega (arith, c.loop-item.invariant.0.long) in
    let ne : Done ≢ New = λ e. cc in (
      closes _ c.loop-item.states c.loop-item.stack c.pop.new.self c.loop-item.order c.push-in-None.new.self c.in-Some.item c.loop-item.invariant.0 c.in-Some.ensures c.in_ok-push-in-None.ensures.ok c.in-None.ensures,
      keeps_set c.args.states.now c.loop-item.states c.in-Some.item Done ne c.loop-item.invariant.1 fits,
      found_set c.loop-item.states c.in-Some.item c.args.root Done ne fits c.loop-item.invariant.2,
    )
