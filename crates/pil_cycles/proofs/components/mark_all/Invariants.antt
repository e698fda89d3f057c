use Rattle.std.proofs.Common.{take}
use Rattle.pil_cycles.specs.Verdicts.{IsMarked}
use Rattle.pil_cycles.proofs.components.mark_all.Given as goal

abbrev pub invariant-loop-item : goal.invariant-loop-item
invariant-loop-item l = IsMarked (take l.item-index l.list) l.fn.verdicts l.verdicts l.fn.todo l.todo
