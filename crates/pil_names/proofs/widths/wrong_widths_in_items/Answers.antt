use Rattle.std.proofs.Common.{refl}
use Rattle.pil_names.specs.Wrongs.{wrong_widths_of}
use Rattle.pil_names.specs.Shown.{draft}
use Rattle.pil_names.proofs.Passing.{flat_step, flat_end}
use Rattle.pil_names.proofs.widths.wrong_widths_in_items.Goals as goal

pub loop-item-preserved : goal.loop-item-preserved
loop-item-preserved c =
    flat_step (λ x. wrong_widths_of (draft x)) c.args.items.now c.args.items.now c.loop-item.item-index c.item-item.result c.loop-item.found c.wrong_widths_of-here.result c.lesser-found.result refl c.loop-item-test.true c.item-item.is c.loop-item.invariant c.wrong_widths_of-here.ensures c.lesser-found.ensures

pub returns : goal.returns
returns c =
    flat_end (wrong_widths_of) draft c.args.items.now c.args.items.now c.loop-item.item-index c.loop-item.found refl c.loop-item-test.false c.loop-item.invariant
