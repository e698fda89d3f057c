use Rattle.pil_cycles.proofs.Decided.{no_cycle}
use Rattle.pil_cycles.proofs.laws.ranked_have_no_cycle.Goals as goal

pub returns : goal.returns
returns c = no_cycle
