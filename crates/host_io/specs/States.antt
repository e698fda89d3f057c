-- The parts of the host in memory as lists.
use Rattle.std.specs.Prelude.{ℕ, List, map, drop, string_bytes, Vec, String}
use Rattle.std.specs.declared.alloc.Global.{Global}
use Rattle.host_io.specs.World.{Asked, Opened, Created}
use Rattle.host_io.specs.Memory.{File, SlotState, Reading, Ended, Writing}
use Rattle.host_io.specs.declared.slots.MemSlot.{MemSlot}
use Rattle.host_io.specs.declared.slots.MemSlot.TheVariants as slots
use Rattle.host_io.specs.declared.files.AskedName.{AskedName}
use Rattle.host_io.specs.declared.files.AskedName.TheVariants as names

abbrev pub file_states : List (String Global × Vec ℕ Global) → List File
file_states files = map (λ f. record { name = string_bytes f.0; bytes = f.1.items }) files

abbrev pub slot_state : MemSlot → SlotState
slot_state (slots.Reading s) = Reading (drop s.at s.bytes.items)
slot_state slots.Ended = Ended
slot_state (slots.Writing t) = Writing (string_bytes t.name) t.written.items

abbrev pub slot_states : List MemSlot → List SlotState
slot_states slots = map slot_state slots

abbrev pub asked_of : AskedName → Asked
asked_of (names.Opened name) = Opened (string_bytes name)
asked_of (names.Created name) = Created (string_bytes name)

abbrev pub all_asked : List AskedName → List Asked
all_asked names = map asked_of names
