use Rattle.std.proofs.Common.{refl}
use Rattle.min_trace.specs.Record.{old_at}
use Rattle.min_trace.proofs.Completes.{executes_at}
use Rattle.min_trace.proofs.Steps.{good_access}
use Rattle.min_trace.proofs.run_laws.execution_law.Goals as goal

pub returns-clause-executes : goal.returns-clause-executes
returns-clause-executes c = executes_at

pub returns-clause-good : goal.returns-clause-good
returns-clause-good c = good_access

pub returns-clause-old : goal.returns-clause-old
unfolding old_at
returns-clause-old c image j = refl
