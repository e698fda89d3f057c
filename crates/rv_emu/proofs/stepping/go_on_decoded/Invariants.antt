use Rattle.std.proofs.Common.{ℕ, ◌-◌, ◌≤◌}
use Rattle.rv_emu.specs.Emulator.{state_of, IsAfter}
use Rattle.rv_emu.proofs.stepping.go_on_decoded.Given as goal

abbrev pub invariant-loop-steps : goal.invariant-loop-steps
invariant-loop-steps l = (l.steps ≤ l.most) × (l.fn.steps ≤ l.steps) × ((from : ℕ) → IsAfter l.image from l.fn.steps (state_of l.fn.cpu l.fn.memory) l.fn.olds.items → IsAfter l.image from l.steps (state_of l.cpu l.memory) l.olds.items)

abbrev pub decreases-loop-steps : goal.decreases-loop-steps
decreases-loop-steps l = l.most - l.steps
