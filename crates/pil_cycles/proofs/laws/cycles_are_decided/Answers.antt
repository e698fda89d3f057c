use Rattle.pil_cycles.proofs.Decided.{depends-decided, least-decided}
use Rattle.pil_cycles.proofs.laws.cycles_are_decided.Goals as goal

pub returns-clause-each : goal.returns-clause-each
returns-clause-each c items k = depends-decided items k k

pub returns-clause-least : goal.returns-clause-least
returns-clause-least c = least-decided
