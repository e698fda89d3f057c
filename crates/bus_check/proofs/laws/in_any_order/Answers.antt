use Rattle.bus_check.proofs.Once.{once-often}
use Rattle.bus_check.proofs.laws.in_any_order.Goals as goal

pub returns : goal.returns
returns c = once-often
