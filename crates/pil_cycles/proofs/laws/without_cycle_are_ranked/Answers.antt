use Rattle.pil_cycles.proofs.Decided.{can_be_ranked}
use Rattle.pil_cycles.proofs.laws.without_cycle_are_ranked.Goals as goal

pub returns : goal.returns
returns c = can_be_ranked
