use Rattle.std.proofs.Common.{sym}
use Rattle.pil_meaning.proofs.Marking.{none-at}
use Rattle.pil_meaning.proofs.marks.mark_of.Goals as goal

pub returns-in-None : goal.returns-in-None
returns-in-None c = sym (none-at c.args.marks.now c.args.item (sym c.in-None.ensures.value))
