use Rattle.std.proofs.Common.{◌≡◌, ◌≢◌, ◌++◌, ℕ}
use Rattle.wit_pool.specs.Placed.{of_number}
use Rattle.wit_pool.proofs.placing.push_air.Given as goal

abbrev pub invariant-loop-table : goal.invariant-loop-table
invariant-loop-table l =
    (l.tables ≡ l.initial.tables ++ of_number l.number l.yielded) × ((other : ℕ) → other ≢ l.number → of_number other l.rest.items ≡ of_number other l.yielded)
