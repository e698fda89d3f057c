use Rattle.std.proofs.Common.{ℕ, map, ap, ◌∙◌}
use Rattle.std.specs.List.{flat_map}
use Rattle.pil_names.specs.Outline.{Draft, Home}
use Rattle.pil_names.specs.Wrongs.{wrong_widths_of}
use Rattle.pil_names.specs.Shown.{draft, home}
use Rattle.pil_names.specs.Least.{least}
use Rattle.pil_names.proofs.Passing.{each_step, each_end}
use Rattle.pil_names.proofs.widths.least_wrong_width.Goals as goal

pub loop-space-preserved : goal.loop-space-preserved
loop-space-preserved c =
    let D = (λ (n : ℕ) (d : Draft). wrong_widths_of d) in
    each_step (λ n x. flat_map (D n) (home x).items) c.args.outline.now.homes c.as_slice-space-items.result.now c.loop-space.space-index c.space-item.result c.loop-space.found c.wrong_widths_in_items-here.result c.lesser-found.result c.as_slice-space-items.ensures c.loop-space-test.true c.space-item.is c.loop-space.invariant (c.wrong_widths_in_items-here.ensures ∙ ap (λ ds. least (flat_map (D c.loop-space.space-index) (map draft ds))) c.as_slice.ensures) c.lesser-found.ensures

pub returns : goal.returns
returns c =
    let D = (λ (n : ℕ) (d : Draft). wrong_widths_of d) in
    each_end (λ n (h : Home). flat_map (D n) h.items) home c.args.outline.now.homes c.as_slice-space-items.result.now c.loop-space.space-index c.loop-space.found c.as_slice-space-items.ensures c.loop-space-test.false c.loop-space.invariant
