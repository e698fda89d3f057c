use Rattle.std.proofs.Common.{ℕ, ◌+◌, ◌<◌, ◌≡◌, length}
use Rattle.pil_program.specs.Program.{AreValues}
use Rattle.pil_program.specs.Blocks.{at_lane}
use Rattle.pil_program.proofs.running.run.Given as goal

abbrev pub invariant-loop-number : goal.invariant-loop-number
invariant-loop-number g l =
    (length l.blocks ≡ length l.fn.blocks)
    × ((j : ℕ) → j < l.stretch.count → AreValues (g.C.Columns.values l.columns) l.stretch.space l.stretch.instance (l.stretch.base + j) l.nodes l.number (at_lane l.blocks j))
