use Rattle.std.proofs.Common.{sym}
use Rattle.pil_meaning.proofs.Numbering.{none-at}
use Rattle.pil_meaning.proofs.firsts.first_of_number.Goals as goal

pub returns-in-None : goal.returns-in-None
returns-in-None c = sym (none-at c.args.firsts.now c.args.item (sym c.in-None.ensures.value))
