use Rattle.std.proofs.Common.{◌≡◌, ◌-◌, ◌*◌, length}
use Rattle.std.specs.Arc.{arc_value}
use Rattle.run_plan.proofs.chunks.plan_of_run.Given as goal

abbrev pub invariant-loop-chunk : goal.invariant-loop-chunk
invariant-loop-chunk l = (l.emu.image ≡ arc_value l.image) × (l.emu.limit ≡ l.limit) × (length l.plan ≡ l.emu.number)

abbrev pub decreases-loop-chunk : goal.decreases-loop-chunk
decreases-loop-chunk l = l.limit - 1024 * l.emu.number
