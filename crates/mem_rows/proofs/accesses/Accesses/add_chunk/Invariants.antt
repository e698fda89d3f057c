use Rattle.std.proofs.Common.{◌≡◌, ◌++◌, ℕ, length}
use Rattle.chain_pool.specs.Lists.{list_of}
use Rattle.mem_rows.specs.Accesses.{of_steps}
use Rattle.mem_rows.specs.Order.{of_key}
use Rattle.mem_rows.proofs.accesses.Accesses.add_chunk.Given as goal

abbrev pub invariant-loop-step : goal.invariant-loop-step
invariant-loop-step l = (k : ℕ) → list_of l.self k ++ of_key (of_steps l.replay) k ≡ list_of l.initial.self k ++ of_key (of_steps l.initial.replay) k

abbrev pub decreases-loop-step : goal.decreases-loop-step
decreases-loop-step l = length l.replay
