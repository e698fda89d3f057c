use Rattle.std.proofs.Common.{◌≡◌, ◌++◌, map, take}
use Rattle.planner.specs.Jobs.{of_air}
use Rattle.run_tables.specs.Sequential.{table_for}
use Rattle.sequential.proofs.whole.Whole.push_tables.Given as goal

abbrev pub invariant-loop-job : goal.invariant-loop-job
invariant-loop-job l = l.tables ≡ l.initial.tables ++ map (table_for l.image l.self.steps) (of_air l.air (take l.job-index l.job-items))
