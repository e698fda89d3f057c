-- What a command leaves, against its outcome.
use Rattle.std.specs.Prelude.{◌≡◌, ◌⊎◌, ℕ, List, [], ◌++◌, take, Option, Some, None}
use Rattle.host_io.specs.World.{World, Asked, with_file}
use Rattle.zk_top.specs.Outcome.{Contents, NewFile, Outcome}
use Rattle.zk_words.specs.declared.status.Which.{Which}
use Rattle.zk_words.specs.declared.status.Status.{Status}
use Rattle.zk_words.specs.declared.status.Status.TheVariants.{TooLarge, HostFault, NoMemory}

-- what was opened in between has nothing left to read
abbrev pub AreReadOut : World → World → Type 0
AreReadOut old new = (slot : ℕ) → (new.left slot ≡ old.left slot) ⊎ (new.left slot ≡ [])

-- what was opened was read to its end, but where a file has more bytes than its limit
abbrev pub AreRead : Option Status → World → World → Type 0
AreRead status old new = ((which : Which) × (status ≡ Some (TooLarge which))) ⊎ AreReadOut old new

-- these names were asked for, and nothing else happened that an outcome speaks of
pub record Asks (names : List Asked) (old new : World) : Type 0 where
  pub asked : new.asked ≡ old.asked ++ names
  pub reported : new.reported ≡ old.reported
  pub contents : new.contents ≡ old.contents

-- a front of these names was
pub record AsksAtMost (names : List Asked) (old new : World) : Type 0 where
  pub some : ℕ
  pub asks : Asks (take some names) old new

-- the files with these bytes behind a name
abbrev pub with_bytes : Contents → List ℕ → List ℕ → Contents
with_bytes contents name bytes = with_file contents name (λ before. Some bytes)

-- the files with the one that the command creates, if it creates one
abbrev pub with_new : Contents → Option NewFile → Contents
with_new contents None = contents
with_new contents (Some file) = with_bytes contents file.name file.bytes

-- all names were asked for and all files were read; the file was created, and a front of it is written
pub record HasWritten (o : Outcome) (old new : World) : Type 0 where
  pub asked : new.asked ≡ old.asked ++ o.names
  pub read : AreRead o.status old new
  pub file : NewFile
  pub is : o.file ≡ Some file
  pub bytes : ℕ
  pub contents : new.contents ≡ with_bytes old.contents file.name (take bytes file.bytes)
  pub reported : new.reported ≡ old.reported

-- all names were asked for, all files were read, and the file is written whole; so much was reported, and no other file has changed
pub record HasReported (o : Outcome) (text : List ℕ) (old new : World) : Type 0 where
  pub asked : new.asked ≡ old.asked ++ o.names
  pub read : AreRead o.status old new
  pub contents : new.contents ≡ with_new old.contents o.file
  pub reported : new.reported ≡ old.reported ++ text

-- the outcome's status and all that it says
pub record Final (o : Outcome) (result : Status) (old new : World) : Type 0 where
  pub status : o.status ≡ Some result
  pub whole : HasReported o o.report old new

-- before the report: a front of the names was asked for, and nothing was created or reported; or a front of the file was written
abbrev pub IsUnreported : Outcome → World → World → Type 0
IsUnreported o old new = AsksAtMost o.names old new ⊎ HasWritten o old new

-- or in the report, of which there is a front
abbrev pub Early : Outcome → World → World → Type 0
Early o old new = IsUnreported o old new ⊎ ((bytes : ℕ) × HasReported o (take bytes o.report) old new)

-- a command that ended with this status; only a failing host or want of memory may end it early
abbrev pub Ends : Outcome → Status → World → World → Type 0
Ends o HostFault old new = Early o old new
Ends o NoMemory old new = Early o old new
Ends o status old new = Final o status old new
