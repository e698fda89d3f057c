-- Which slots a host gave, and which of them may be read or written.
use Rattle.std.specs.Prelude.{◌≡◌, ◌≢◌, ℕ, Result, Ok, Err, ◌↔◌, ◌⊎◌, Option, List, slice_get}
use Rattle.host_io.specs.declared.host.HostErr.{HostErr}
use Rattle.host_io.specs.declared.host.Slot.{Slot}

-- the same slots as before
abbrev pub SameSlots : (ℕ → Type 0) → (ℕ → Type 0) → Type 0
SameSlots before now = (n : ℕ) → now n ↔ before n

-- this slot came to those that were there
abbrev pub GainsSlot : (ℕ → Type 0) → (ℕ → Type 0) → ℕ → Type 0
GainsSlot before now slot = (n : ℕ) → now n ↔ (before n ⊎ (n ≡ slot))

-- this slot is no longer there, all others are
pub record LosesSlot (before now : ℕ → Type 0) (slot : ℕ) : Type 0 where
  pub gone : ¬ now slot
  pub others : (n : ℕ) → n ≢ slot → now n ↔ before n

-- an answered slot came to those that were there; a refused call leaves them
abbrev pub GainsAnswer : (ℕ → Type 0) → (ℕ → Type 0) → Result Slot HostErr → Type 0
GainsAnswer before now (Ok slot) = GainsSlot before now slot.number
GainsAnswer before now (Err e) = SameSlots before now

-- a read that gives 0 bytes ends the slot; nothing else does
pub record EndsAtZero (before now : ℕ → Type 0) (slot count : ℕ) : Type 0 where
  pub end : count ≡ 0 → LosesSlot before now slot
  pub more : count ≢ 0 → SameSlots before now

-- what f says of each slot of a list
abbrev pub at_slots : {T A : Type 0} → (Option T → A) → List T → ℕ → A
at_slots f slots n = f (slice_get slots n)
