use Rattle.std.proofs.Common.{sym}
use Rattle.pil_laws.proofs.Times.{often_from_permutation}
use Rattle.bus_check.proofs.arrays.sort_arrays.Goals as goal

pub returns-clause-times : goal.returns-clause-times
returns-clause-times g c = λ t. sym (often_from_permutation c.args.arrays.now.items c.sort_unstable.new.self.items c.sort_unstable.ensures.permutation t)
