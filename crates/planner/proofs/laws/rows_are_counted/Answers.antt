use Rattle.planner.proofs.Handed.{rows_counted}
use Rattle.planner.proofs.laws.rows_are_counted.Goals as goal

pub returns : goal.returns
returns c = rows_counted
