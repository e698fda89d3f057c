use Rattle.std.proofs.Common.{length, ◌+◌}
use Rattle.pil_cycles.specs.Users.{Uses}
use Rattle.pil_cycles.specs.Verdicts.{IsSpread, unknown_count}
use Rattle.pil_cycles.proofs.components.judge_root.Given as goal

abbrev pub invariant-loop-item : goal.invariant-loop-item
invariant-loop-item l = IsSpread (Uses l.users) (length l.users) l.order l.at l.root l.verdicts l.todo

abbrev pub decreases-loop-item : goal.decreases-loop-item
decreases-loop-item l = unknown_count l.verdicts + length l.todo
