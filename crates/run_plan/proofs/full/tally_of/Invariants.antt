use Rattle.std.proofs.Common.{◌≡◌, length}
use Rattle.run_plan.proofs.full.tally_of.Given as goal

abbrev pub invariant-loop : goal.invariant-loop
invariant-loop l = length l.plan ≡ l.counter
