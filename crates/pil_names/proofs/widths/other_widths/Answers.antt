use Rattle.std.proofs.Common.{refl}
use Rattle.pil_syntax.specs.Shown.{tuple}
use Rattle.pil_names.specs.Wrongs.{other_width}
use Rattle.pil_names.proofs.Passing.{flat_step, flat_end}
use Rattle.pil_names.proofs.widths.other_widths.Goals as goal

pub loop-list-preserved : goal.loop-list-preserved
loop-list-preserved c =
    flat_step (λ x. other_width c.args.width (tuple x)) c.args.lists.now c.args.lists.now c.loop-list.list-index c.list-item.result c.loop-list.found c.other_width-here.result c.lesser-found.result refl c.loop-list-test.true c.list-item.is c.loop-list.invariant c.other_width-here.ensures c.lesser-found.ensures

pub returns : goal.returns
returns c =
    flat_end (other_width c.args.width) tuple c.args.lists.now c.args.lists.now c.loop-list.list-index c.loop-list.found refl c.loop-list-test.false c.loop-list.invariant
