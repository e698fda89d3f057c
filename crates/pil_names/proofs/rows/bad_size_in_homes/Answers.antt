use Rattle.pil_names.specs.Wrongs.{bad_size}
use Rattle.pil_names.specs.Shown.{home, outlined}
use Rattle.pil_names.specs.Outline.{Home}
use Rattle.pil_names.proofs.Passing.{flat_step, flat_end}
use Rattle.pil_names.proofs.rows.bad_size_in_homes.Goals as goal

pub loop-space-preserved : goal.loop-space-preserved
loop-space-preserved c =
    flat_step (λ x. (λ (h : Home). bad_size (outlined c.args.outline.now) h.size) (home x)) c.args.outline.now.homes c.as_slice-space-items.result.now c.loop-space.space-index c.space-item.result c.loop-space.found c.bad_size-here.result c.lesser-found.result c.as_slice-space-items.ensures c.loop-space-test.true c.space-item.is c.loop-space.invariant c.bad_size-here.ensures c.lesser-found.ensures

pub returns : goal.returns
returns c =
    flat_end ((λ (h : Home). bad_size (outlined c.args.outline.now) h.size)) home c.args.outline.now.homes c.as_slice-space-items.result.now c.loop-space.space-index c.loop-space.found c.as_slice-space-items.ensures c.loop-space-test.false c.loop-space.invariant
