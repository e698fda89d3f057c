use Rattle.std.proofs.Common.{◌≡◌, ◌<◌, ◌^◌, map, length, sym, ◌∙◌, ap, subst}
use Rattle.std.proofs.lemmas.List.{length-map}
use Rattle.pil_ast.specs.Tree.{line, namespaces}
use Rattle.pil_ast.specs.Term.{space_at}
use Rattle.pil_ast.specs.Sound.{IsAcyclic}
use Rattle.pil_ast.proofs.Trees.{space-here, spaces-within, spaces-past, spaces-at_most}
use Rattle.pil_ast.proofs.Limits.{few_items, few_enough, names-inside}
use Rattle.pil_ast.proofs.Known.{plans-of-none, plans-of-more, plans-of-all}
use Rattle.pil_ast.proofs.values.plans_of.Goals as goal

pub loop-space-init : goal.loop-space-init
loop-space-init c = plans-of-none (namespaces c.args.pil.now) c.new-plans.result c.new-plans.ensures

pub plan-requires : goal.plan-requires
plan-requires c =
    let within = spaces-within c.args.pil.now.spaces c.as_slice-space-items.result.now c.loop-space.space-index c.as_slice-space-items.ensures c.loop-space-test.true in
    let here = space-here c.args.pil.now.spaces c.as_slice-space-items.result.now c.loop-space.space-index c.space-item.result c.as_slice-space-items.ensures c.loop-space-test.true c.space-item.is in
    let same : map line c.as_slice.result.now ≡ (space_at (namespaces c.args.pil.now) c.loop-space.space-index).items = ap (map line) c.as_slice.ensures ∙ sym (ap (λ n. n.items) here) in
    let space = c.requires.spaces c.loop-space.space-index within in
    let long : length c.as_slice.result.now ≡ length (space_at (namespaces c.args.pil.now) c.loop-space.space-index).items = sym (length-map c.as_slice.result.now line) ∙ ap length same in
    let few : length (space_at (namespaces c.args.pil.now) c.loop-space.space-index).items < 2 ^ 20 = few_items (namespaces c.args.pil.now) c.loop-space.space-index c.requires within in
    record {
      few = few_enough (length c.as_slice.result.now) (length (space_at (namespaces c.args.pil.now) c.loop-space.space-index).items) long few;
      inside = names-inside (namespaces c.args.pil.now) c.loop-space.space-index (map line c.as_slice.result.now) same space;
      acyclic = subst IsAcyclic (sym same) space.acyclic;
    }

pub loop-space-preserved : goal.loop-space-preserved
loop-space-preserved c =
    let here = space-here c.args.pil.now.spaces c.as_slice-space-items.result.now c.loop-space.space-index c.space-item.result c.as_slice-space-items.ensures c.loop-space-test.true c.space-item.is in
    let same : map line c.as_slice.result.now ≡ (space_at (namespaces c.args.pil.now) c.loop-space.space-index).items = ap (map line) c.as_slice.ensures ∙ sym (ap (λ n. n.items) here) in
    plans-of-more (namespaces c.args.pil.now) c.loop-space.space-index c.loop-space.plans c.push.new.self c.in_ok-plan.field-0 (map line c.as_slice.result.now) c.loop-space.invariant same c.in_ok-plan.ensures c.in_ok-push.ensures.ok

pub returns : goal.returns
returns c =
    plans-of-all (namespaces c.args.pil.now) c.loop-space.space-index c.loop-space.plans c.loop-space.invariant
    (spaces-past c.args.pil.now.spaces c.as_slice-space-items.result.now c.loop-space.space-index c.as_slice-space-items.ensures c.loop-space-test.false)
    (spaces-at_most c.args.pil.now.spaces c.as_slice-space-items.result.now c.loop-space.space-index c.as_slice-space-items.ensures c.loop-space.auto.space-index-end)
