use Rattle.std.proofs.Common.{refl}
use Rattle.pil_meaning.specs.Marks.{double_in_draft}
use Rattle.pil_names.specs.Shown.{draft, outlined}
use Rattle.pil_meaning.proofs.Passing.{flat_step, flat_end}
use Rattle.pil_meaning.proofs.double.double_in_items.Goals as goal

pub loop-item-preserved : goal.loop-item-preserved
loop-item-preserved c =
    flat_step (λ x. double_in_draft (outlined c.args.outline.now) c.args.home (draft x)) c.args.items.now c.args.items.now c.loop-item.item-index c.item-item.result c.loop-item.found c.double_in_draft-here.result c.lesser-found.result refl c.loop-item-test.true c.item-item.is c.loop-item.invariant c.double_in_draft-here.ensures c.lesser-found.ensures

pub returns : goal.returns
returns c =
    flat_end (double_in_draft (outlined c.args.outline.now) c.args.home) draft c.args.items.now c.args.items.now c.loop-item.item-index c.loop-item.found refl c.loop-item-test.false c.loop-item.invariant
