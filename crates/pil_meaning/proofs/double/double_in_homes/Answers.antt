use Rattle.std.proofs.Common.{◌<◌, ◌^◌, length, map, ap, subst, ◌∙◌, arith}
use Rattle.std.specs.List.{flat_map}
use Rattle.std.proofs.lemmas.List.{length-map}
use Rattle.pil_names.specs.Outline.{Home}
use Rattle.pil_meaning.specs.Marks.{double_in_draft}
use Rattle.pil_names.specs.Shown.{draft, home, outlined}
use Rattle.pil_names.specs.Least.{least}
use Rattle.pil_meaning.proofs.Passing.{each_step, each_end}
use Rattle.pil_meaning.proofs.double.double_in_homes.Goals as goal

pub overflow_add-number : goal.overflow_add-number
overflow_add-number c =
    let few : length c.args.outline.now.homes < 2 ^ 32 = subst (λ n. n < 2 ^ 32) (length-map c.args.outline.now.homes home) c.requires.few.homes in
    let long = ap length c.as_slice-space-items.ensures in
    omega (arith, few, long, c.loop-space.invariant.number, c.loop-space-test.true)

pub loop-space-preserved : goal.loop-space-preserved
loop-space-preserved c =
    let D = (double_in_draft (outlined c.args.outline.now)) in
    record { number = omega (arith, c.loop-space.invariant.number); found = each_step (λ n x. flat_map (D n) (home x).items) c.args.outline.now.homes c.as_slice-space-items.result.now c.loop-space.space-index c.space-item.result c.loop-space.found c.double_in_items-here.result c.lesser-found.result c.as_slice-space-items.ensures c.loop-space-test.true c.space-item.is c.loop-space.invariant.found (c.double_in_items-here.ensures ∙ ap (λ ds. least (flat_map (D c.loop-space.number) (map draft ds))) c.as_slice.ensures ∙ ap (λ n. least (flat_map (D n) (map draft c.space-item.result.items))) c.loop-space.invariant.number) c.lesser-found.ensures }

pub returns : goal.returns
returns c =
    let D = (double_in_draft (outlined c.args.outline.now)) in
    each_end (λ n (h : Home). flat_map (D n) h.items) home c.args.outline.now.homes c.as_slice-space-items.result.now c.loop-space.space-index c.loop-space.found c.as_slice-space-items.ensures c.loop-space-test.false c.loop-space.invariant.found
