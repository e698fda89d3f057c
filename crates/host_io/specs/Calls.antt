-- What a host's calls answer.
use Rattle.std.specs.Prelude.{◌≡◌, ℕ, ◌+◌, ◌-◌, ◌^◌, ◌≤◌, min, List, [], ◌++◌, length, take, drop, Some, Result, IsOk, IsErrOf}
use Rattle.host_io.specs.World.{World, after_open, after_read, after_write, after_report}
use Rattle.host_io.specs.declared.host.HostErr.{HostErr}
use Rattle.host_io.specs.declared.host.HostErr.TheVariants as errors

-- the count of faults rose, or stands at its last value
abbrev pub HasRisen : ℕ → ℕ → Type 0
HasRisen before now = min (before + 1) (2 ^ 64 - 1) ≤ now

-- the count never falls, an answered call leaves it, and `Failed` comes only where it rose
pub record HasCause {T : Type 0} (before now : ℕ) (result : Result T HostErr) : Type 0 where
  pub later : before ≤ now
  pub answered : IsOk result → now ≡ before
  pub failed : IsErrOf result errors.Failed → HasRisen before now

-- the slot has the contents of the name left
pub record Opens (old new : World) (name : List ℕ) (slot : ℕ) : Type 0 where
  pub bytes : List ℕ
  pub found : old.contents name ≡ Some bytes
  pub after : new ≡ after_open old name slot bytes

-- count bytes of what was left came to the front of the buffer, 0 only where nothing was left
pub record Reads (old new : World) (slot count : ℕ) (buffer buffer' : List ℕ) : Type 0 where
  pub within : count ≤ length (old.left slot)
  pub end : count ≡ 0 → old.left slot ≡ []
  pub front : buffer' ≡ take count (old.left slot) ++ drop count buffer
  pub after : new ≡ after_read old slot count

-- a front of what was left of the slot was taken
pub record HasReadFront (old new : World) (slot : ℕ) : Type 0 where
  pub count : ℕ
  pub within : count ≤ length (old.left slot)
  pub after : new ≡ after_read old slot count

-- a front of the bytes was written to the slot
pub record HasWrittenFront (old new : World) (slot : ℕ) (bytes : List ℕ) : Type 0 where
  pub count : ℕ
  pub after : new ≡ after_write old slot (take count bytes)

-- a front of the bytes was reported
pub record HasReportedFront (old new : World) (bytes : List ℕ) : Type 0 where
  pub count : ℕ
  pub after : new ≡ after_report old (take count bytes)

-- at most so many bytes came, which were given after those that were given before; where the host tells contents they are all that
-- was left of the slot
pub record HasGiven {A : Type 0} (max : ℕ) (before after : A → List ℕ → Type 0) (tells : Type 0) (old new : World) (slot : ℕ) : Type 0 where
  pub bytes : List ℕ
  pub fits : length bytes ≤ max
  pub all : tells → bytes ≡ old.left slot
  pub taken : tells → new ≡ after_read old slot (length bytes)
  pub given : (start : A) (front : List ℕ) → before start front → after start (front ++ bytes)
