-- What the host in memory keeps, and what it tells of it.
use Rattle.std.specs.Prelude.{◌≡◌, ℕ, ◌+◌, ◌-◌, ◌^◌, min, List, [], ◌∷◌, Option, Some, None, Bool, true, false, ◌||◌, IsTrue, refl, Contains, is_some, nat_eq, if◌then◌else◌}
use Rattle.std.specs.Option.{option_map}
use Rattle.std.specs.Cmp.Lexicographic.{pointwise}
use Rattle.host_io.specs.World.{World, Asked}
use Rattle.host_io.specs.Slots.{at_slots}
use Rattle.host_io.specs.declared.call.HostCall.{HostCall}
use Rattle.host_io.specs.declared.call.CallCounts.{CallCounts}
use Rattle.host_io.specs.declared.call.HostCall.TheVariants as calls

pub record File : Type 0 where
  pub name : List ℕ
  pub bytes : List ℕ

-- a slot that was given: what is left to read, nothing, or what was written and for which name
pub data SlotState : Type 0 where
  Reading : List ℕ → SlotState
  Ended : SlotState
  Writing : List ℕ → List ℕ → SlotState

-- of several files with one name the first counts
abbrev pub contents_of : List File → List ℕ → Option (List ℕ)
contents_of [] name = None
contents_of (f ∷ files) name = if pointwise nat_eq name f.name then Some f.bytes else contents_of files name

-- where the first file of a name stands
abbrev pub first_place : List File → List ℕ → Option ℕ
first_place [] name = None
first_place (f ∷ files) name = if pointwise nat_eq name f.name then Some 0 else option_map (λ k. k + 1) (first_place files name)

abbrev pub left_of : Option SlotState → List ℕ
left_of (Some (Reading bytes)) = bytes
left_of (Some Ended) = []
left_of (Some (Writing name bytes)) = []
left_of None = []

abbrev pub written_of : Option SlotState → List ℕ
written_of (Some (Reading bytes)) = []
written_of (Some Ended) = []
written_of (Some (Writing name bytes)) = bytes
written_of None = []

abbrev pub target_of : Option SlotState → List ℕ
target_of (Some (Reading bytes)) = []
target_of (Some Ended) = []
target_of (Some (Writing name bytes)) = name
target_of None = []

abbrev pub is_reading : Option SlotState → Bool
is_reading (Some (Reading bytes)) = true
is_reading (Some Ended) = false
is_reading (Some (Writing name bytes)) = false
is_reading None = false

abbrev pub is_writing : Option SlotState → Bool
is_writing (Some (Reading bytes)) = false
is_writing (Some Ended) = false
is_writing (Some (Writing name bytes)) = true
is_writing None = false

-- how often a kind of call was made, up to the last number
abbrev pub calls_of : CallCounts → HostCall → ℕ
calls_of n calls.Open = n.open_calls
calls_of n calls.Read = n.read_calls
calls_of n calls.Create = n.create_calls
calls_of n calls.Write = n.write_calls
calls_of n calls.Report = n.report_calls

abbrev pub one_more : ℕ → ℕ
one_more n = min (n + 1) (2 ^ 64 - 1)

-- the counts with one more call of a kind
abbrev pub after_call : CallCounts → HostCall → CallCounts
after_call n calls.Open = record n { open_calls = one_more n.open_calls }
after_call n calls.Read = record n { read_calls = one_more n.read_calls }
after_call n calls.Create = record n { create_calls = one_more n.create_calls }
after_call n calls.Write = record n { write_calls = one_more n.write_calls }
after_call n calls.Report = record n { report_calls = one_more n.report_calls }

-- the host in memory: what it tells, at most how many bytes a call gives or takes, the calls that
-- fail by kind and number, and how many of each kind were made
pub record MemState : Type 0 where
  pub files : List File
  pub slots : List SlotState
  pub asked : List Asked
  pub reported : List ℕ
  pub faults : ℕ
  pub grain : ℕ
  pub failing : List (HostCall × ℕ)
  pub counts : CallCounts

abbrev pub world_of : MemState → World
world_of s = record {
  contents = contents_of s.files;
  left = at_slots left_of s.slots;
  written = at_slots written_of s.slots;
  target = at_slots target_of s.slots;
  reported = s.reported;
  asked = s.asked;
}

-- the slots that were given, and those that may be read or written
abbrev pub IsGiven : MemState → ℕ → Type 0
IsGiven s n = IsTrue (at_slots is_some s.slots n)

abbrev pub MayRead : MemState → ℕ → Type 0
MayRead s n = IsTrue (at_slots is_reading s.slots n)

abbrev pub MayWrite : MemState → ℕ → Type 0
MayWrite s n = IsTrue (at_slots is_writing s.slots n)

-- some slot was created for the name
abbrev pub was_created : List SlotState → List ℕ → Bool
was_created [] name = false
was_created (s ∷ slots) name = if is_writing (Some s) then pointwise nat_eq name (target_of (Some s)) || was_created slots name else was_created slots name

-- the next call of this kind is in the list of those that fail
abbrev pub IsListed : MemState → HostCall → Type 0
IsListed s call = Contains s.failing (call, calls_of s.counts call)

-- one more call of this kind was made
pub record CountsCall (old new : MemState) (call : HostCall) : Type 0 where
  pub counted : new.counts ≡ after_call old.counts call
  pub same_list : new.failing ≡ old.failing
  pub same_grain : new.grain ≡ old.grain

-- only a slot that was given may be read or written
pub reading_given : (o : Option SlotState) → IsTrue (is_reading o) → IsTrue (is_some o)
reading_given (Some slot) is_open = refl
reading_given None is_open = is_open

pub writing_given : (o : Option SlotState) → IsTrue (is_writing o) → IsTrue (is_some o)
writing_given (Some slot) is_open = refl
writing_given None is_open = is_open
