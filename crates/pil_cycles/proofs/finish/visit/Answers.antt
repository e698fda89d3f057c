use Rattle.std.proofs.Common.{◌≡◌, ◌<◌, ◌+◌, [], ◌∷◌, ◌++◌, true, map, length, sym, ◌∙◌, ap, arith, length-append}
use Rattle.std.proofs.lemmas.List.{length-map}
use Rattle.pil_ast.specs.Tree.{line}
use Rattle.pil_ast.specs.Term.{inter_at}
use Rattle.pil_cycles.specs.Paths.{NamesAt}
use Rattle.pil_cycles.specs.Finish.{IsFound}
use Rattle.pil_cycles.proofs.Parts.{named_one, names_weaker}
use Rattle.pil_cycles.proofs.Lists.{slice_get-set_same}
use Rattle.pil_cycles.proofs.Steps.{found_more, opens, below_top, closes, new_count-found}
use Rattle.pil_cycles.proofs.finish.visit.Goals as goal

pub loop-item-init : goal.loop-item-init
loop-item-init c =
    let fits : c.args.root < length c.args.found.now = omega (arith, c.requires.search.long) in
    let new : ¬ IsFound c.args.found.now c.args.root = λ e. let n : ⊥ = cc (c.is_found.ensures.1 e) in n in
    let same : c.push.new.self ≡ [] ++ c.args.root ∷ [] = c.in_ok-push.ensures.ok ∙ ap (λ s. s ++ c.args.root ∷ []) c.new-stack.ensures in (
      opens (NamesAt (map line c.args.items.now)) (length c.args.items.now) c.args.found.now [] c.push.new.self c.args.order.now c.args.root c.requires.search same c.requires.root new (λ j d l. absurd (omega arith)),
      λ k h. found_more c.args.found.now c.args.root k fits h,
      slice_get-set_same c.args.found.now c.args.root true fits,
    )

pub new_in_item-requires : goal.new_in_item-requires
new_in_item-requires c =
    names_weaker (λ k. k < length (map line c.args.items.now)) (λ k. k < length c.loop-item.found) (λ k l. omega (arith, c.loop-item.invariant.0.long, length-map c.args.items.now line)) (inter_at (map line c.args.items.now) c.in-Some.item) (c.requires.inside c.in-Some.item)

pub loop-item-smaller-in-Continue-branch-3 : goal.loop-item-smaller-in-Continue-branch-3
loop-item-smaller-in-Continue-branch-3 c =
    let found = c.in-Some-new_in_item.ensures in
    let fewer = new_count-found c.loop-item.found c.in-Some-new_in_item.named found.1 found.2 in
    let size : length c.loop-item.stack ≡ length c.pop.new.self + 1 = ap length c.in-Some.ensures ∙ length-append c.pop.new.self (c.in-Some.item ∷ []) in
    let size' : length c.push-in-Some-new_in_item.new.self ≡ length c.pop.new.self + 1 = ap length c.in_ok-push-in-Some-new_in_item.ensures.ok ∙ length-append c.pop.new.self (c.in-Some.item ∷ []) in
    let size'' : length c.push-in-Some-new_in_item-2.new.self ≡ length c.push-in-Some-new_in_item.new.self + 1 = ap length c.in_ok-push-in-Some-new_in_item-2.ensures.ok ∙ length-append c.push-in-Some-new_in_item.new.self (c.in-Some-new_in_item.named ∷ []) in
    omega arith

pub loop-item-preserved-in-Continue-branch-3 : goal.loop-item-preserved-in-Continue-branch-3
loop-item-preserved-in-Continue-branch-3 c =
    let found = c.in-Some-new_in_item.ensures in
    let same : c.push-in-Some-new_in_item-2.new.self ≡ c.loop-item.stack ++ c.in-Some-new_in_item.named ∷ [] =
    c.in_ok-push-in-Some-new_in_item-2.ensures.ok ∙ ap (λ s. s ++ c.in-Some-new_in_item.named ∷ []) (c.in_ok-push-in-Some-new_in_item.ensures.ok ∙ sym c.in-Some.ensures) in (
      opens (NamesAt (map line c.args.items.now)) (length c.args.items.now) c.loop-item.found c.loop-item.stack c.push-in-Some-new_in_item-2.new.self c.loop-item.order c.in-Some-new_in_item.named c.loop-item.invariant.0 same (omega (arith, c.loop-item.invariant.0.long)) found.2
          (below_top (NamesAt (map line c.args.items.now)) (length c.args.items.now) c.loop-item.found c.loop-item.stack c.pop.new.self c.loop-item.order c.in-Some.item c.in-Some-new_in_item.named c.loop-item.invariant.0 c.in-Some.ensures found.0),
      λ k h. found_more c.loop-item.found c.in-Some-new_in_item.named k found.1 (c.loop-item.invariant.1 k h),
      found_more c.loop-item.found c.in-Some-new_in_item.named c.args.root found.1 c.loop-item.invariant.2,
    )

pub loop-item-smaller : goal.loop-item-smaller
loop-item-smaller c =
    let size : length c.loop-item.stack ≡ length c.pop.new.self + 1 = ap length c.in-Some.ensures ∙ length-append c.pop.new.self (c.in-Some.item ∷ []) in
    omega arith

pub loop-item-preserved : goal.loop-item-preserved
loop-item-preserved c = (
  closes (NamesAt (map line c.args.items.now)) (length c.args.items.now) c.loop-item.found c.loop-item.stack c.pop.new.self c.loop-item.order c.push-in-None.new.self c.in-Some.item c.loop-item.invariant.0 c.in-Some.ensures c.in_ok-push-in-None.ensures.ok
      (λ b e. named_one (IsFound c.loop-item.found) (inter_at (map line c.args.items.now) c.in-Some.item) b c.in-None.ensures e),
  c.loop-item.invariant.1,
  c.loop-item.invariant.2,
)
