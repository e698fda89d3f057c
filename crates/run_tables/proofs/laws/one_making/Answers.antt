use Rattle.run_tables.proofs.Once.{halts, only_making}
use Rattle.run_tables.proofs.laws.one_making.Goals as goal

pub returns-clause-halts : goal.returns-clause-halts
returns-clause-halts c = halts c.run_law.ensures

pub returns-clause-once : goal.returns-clause-once
returns-clause-once c = only_making
