use Rattle.std.proofs.Common.{◌≡◌, ◌-◌, ◌*◌}
use Rattle.zk_top.proofs.emulation.emulate.Given as goal

abbrev pub invariant-loop-chunk : goal.invariant-loop-chunk
invariant-loop-chunk l = (l.emu.image ≡ l.fn.image) × (l.emu.limit ≡ l.limit)

abbrev pub decreases-loop-chunk : goal.decreases-loop-chunk
decreases-loop-chunk l = l.limit - 1024 * l.emu.number
