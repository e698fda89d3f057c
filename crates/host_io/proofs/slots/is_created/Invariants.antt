use Rattle.std.proofs.Common.{◌≡◌, drop}
use Rattle.host_io.specs.Memory.{was_created}
use Rattle.host_io.specs.States.{slot_states}
use Rattle.host_io.proofs.slots.is_created.Given as goal

abbrev pub invariant-loop-slot : goal.invariant-loop-slot
invariant-loop-slot l = was_created (slot_states (drop l.slot-index l.slots)) l.name ≡ was_created (slot_states l.slots) l.name
