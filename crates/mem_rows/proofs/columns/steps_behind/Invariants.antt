use Rattle.std.proofs.Common.{◌≡◌, ◌++◌, drop}
use Rattle.mem_rows.specs.Columns.{steps_behind}
use Rattle.mem_rows.proofs.columns.steps_behind.Given as goal

abbrev pub invariant-loop-access : goal.invariant-loop-access
invariant-loop-access l = l.steps.items ++ steps_behind l.last (drop l.access-index l.accesses) ≡ steps_behind l.fn.before l.accesses
