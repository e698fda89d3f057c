-- Which slots of the real system are open.
use Rattle.std.specs.Prelude.{Option, Some, None, Bool, true, false, IsTrue, is_some, refl}
use Rattle.host_io.specs.declared.os_host.OsSlot.{OsSlot}
use Rattle.host_io.specs.declared.os_host.OsSlot.TheVariants as slots

abbrev pub is_reading : {F : Type 0} → Option (OsSlot F) → Bool
is_reading (Some (slots.Reading file)) = true
is_reading (Some slots.Ended) = false
is_reading (Some (slots.Writing file)) = false
is_reading None = false

abbrev pub is_writing : {F : Type 0} → Option (OsSlot F) → Bool
is_writing (Some (slots.Reading file)) = false
is_writing (Some slots.Ended) = false
is_writing (Some (slots.Writing file)) = true
is_writing None = false

-- only a slot that was given is open
pub reading_given : {F : Type 0} (o : Option (OsSlot F)) → IsTrue (is_reading o) → IsTrue (is_some o)
reading_given (Some slot) is_open = refl
reading_given None is_open = is_open

pub writing_given : {F : Type 0} (o : Option (OsSlot F)) → IsTrue (is_writing o) → IsTrue (is_some o)
writing_given (Some slot) is_open = refl
writing_given None is_open = is_open
