use Rattle.std.proofs.Common.{◌≡◌, ◌++◌}
use Rattle.wit_pool.proofs.placing.push_all.Given as goal

abbrev pub invariant-loop-table : goal.invariant-loop-table
invariant-loop-table l = l.tables ≡ l.initial.tables ++ l.yielded
