-- Parts of a command.
use Rattle.std.specs.Prelude.{◌≡◌, ◌⊎◌, ℕ, ◌<◌, ◌≤◌, ◌-◌, ◌^◌, List, [], ◌∷◌, ◌++◌, length, take, Option, Some, Vec, Result, Ok, Err}
use Rattle.std.specs.declared.alloc.Global.{Global}
use Rattle.host_io.specs.World.{World, Asked, Opened, Created}
use Rattle.rv_model.specs.Image.{Img}
use Rattle.rv_model.specs.Run.{end_within, Halted, RunsTo}
use Rattle.rv_model.specs.declared.answer.Public.{Public}
use Rattle.run_tables.specs.Sequential.{sequential_witness}
use Rattle.elf_load.specs.Loads.{Loads}
use Rattle.elf_load.specs.Refusal.{Refused}
use Rattle.elf_load.specs.declared.error.ElfErr.{ElfErr}
use Rattle.gold.specs.declared.instances.Witness.{Witness}
use Rattle.gold.specs.declared.shapes.Shape.{Shape}
use Rattle.tab_file.specs.declared.fault.TabKind.{TabKind}
use Rattle.tab_file.specs.Reading.{TabReads, TabFails}
use Rattle.pil_ast.specs.Term.{Line, published, Namespace}
use Rattle.pil_ast.specs.Columns.{Columns}
use Rattle.pil_text.specs.Text.{Reads, Fails}
use Rattle.pil_text.specs.declared.error.PilErr.{PilErr}
use Rattle.zk_words.specs.declared.status.Which.{Which}
use Rattle.zk_words.specs.declared.status.Status.{Status}
use Rattle.zk_words.specs.declared.status.Status.TheVariants as statuses
use Rattle.zk_top.specs.declared.files.FileErr.{FileErr}
use Rattle.zk_top.specs.declared.files.FileErr.TheVariants as errors
use Rattle.run_tables.specs.declared.made.Made.{Made}
use Rattle.zk_words.specs.declared.status.Which.TheVariants as files
use Rattle.zk_top.specs.Outcome.{Outcome, reporting, refused, with_input, of_made, of_making}
use Rattle.zk_top.specs.Ends.{AreReadOut, AreRead, Asks, AsksAtMost, with_bytes, HasReported, IsUnreported}

-- the file of this name was asked for, has at most so many bytes, and was read whole
pub record IsRead (name : Asked) (behind : Option (List ℕ)) (limit : ℕ) (bytes : List ℕ) (old new : World) : Type 0 where
  pub found : behind ≡ Some bytes
  pub fits : length bytes ≤ limit
  pub asks : Asks (name ∷ []) old new
  pub read : AreReadOut old new

-- the file of this name was read whole, and its bytes were given after those that were given before
pub record IsReadInto {A : Type 0} (before after : A → List ℕ → Type 0) (name : Asked) (behind : Option (List ℕ)) (limit : ℕ) (old new : World) : Type 0 where
  pub bytes : List ℕ
  pub is_read : IsRead name behind limit bytes old new
  pub given : (start : A) (front : List ℕ) → before start front → after start (front ++ bytes)

-- it was asked for, and has more bytes
pub record IsTooLarge (name : Asked) (behind : Option (List ℕ)) (limit : ℕ) (old new : World) : Type 0 where
  pub bytes : List ℕ
  pub found : behind ≡ Some bytes
  pub exceeds : limit < length bytes
  pub asks : Asks (name ∷ []) old new

-- how a file wasn't read
abbrev pub IsNotRead : Asked → Option (List ℕ) → ℕ → FileErr → World → World → Type 0
IsNotRead name behind limit errors.TooLarge old new = IsTooLarge name behind limit old new
IsNotRead name behind limit errors.HostFault old new = AsksAtMost (name ∷ []) old new
IsNotRead name behind limit errors.NoMemory old new = AsksAtMost (name ∷ []) old new

-- how a command stops where a file isn't read
abbrev pub stop_of : FileErr → Which → Status
stop_of errors.TooLarge which = statuses.TooLarge which
stop_of errors.HostFault which = statuses.HostFault
stop_of errors.NoMemory which = statuses.NoMemory

-- this status, or one that may come at any time
abbrev pub IsOrEarly : Status → Status → Type 0
IsOrEarly status result = (result ≡ status) ⊎ ((result ≡ statuses.HostFault) ⊎ (result ≡ statuses.NoMemory))

-- a status that the outcome alone decides
abbrev pub IsDecided : Status → Type 0
IsDecided statuses.HostFault = ⊥
IsDecided statuses.NoMemory = ⊥
IsDecided status = Unit {0}

-- the file has this image and nothing else
abbrev pub IsOnlyImage : List ℕ → Img → Type 0
IsOnlyImage file image = ((other : Img) → Loads file [] other → other ≡ image) × ((e : ElfErr) → Refused file e → ⊥)

-- the file has this refusal and nothing else
abbrev pub IsOnlyRefusal : List ℕ → ElfErr → Type 0
IsOnlyRefusal file e = ((image : Img) → Loads file [] image → ⊥) × ((other : ElfErr) → Refused file other → other ≡ e)

-- a file was refused, or memory ran out
abbrev pub IsRefusal : List ℕ → Status → Type 0
IsRefusal file status = (status ≡ statuses.NoMemory) ⊎ ((e : ElfErr) × (status ≡ statuses.BadElf e) × IsOnlyRefusal file e)

-- the ELF file and the input were read, and the file is loaded as this image and no other
pub record HasProgram (elf input : List ℕ) (image : Img) (old new : World) : Type 0 where
  pub mid : World
  pub file : List ℕ
  pub has : IsRead (Opened elf) (old.contents elf) (2 ^ 26) file old mid
  pub bare : Img
  pub only : IsOnlyImage file bare
  pub bytes : List ℕ
  pub read : IsRead (Opened input) (old.contents input) (2 ^ 24 - 8) bytes mid new
  pub is : image ≡ with_input bare bytes

-- the ELF file wasn't read
pub record HasNoFile (elf : List ℕ) (status : Status) (old new : World) : Type 0 where
  pub e : FileErr
  pub is : status ≡ stop_of e files.Elf
  pub unread : IsNotRead (Opened elf) (old.contents elf) (2 ^ 26) e old new

-- it was read, and refused
pub record HasRefused (elf : List ℕ) (status : Status) (old new : World) : Type 0 where
  pub file : List ℕ
  pub has : IsRead (Opened elf) (old.contents elf) (2 ^ 26) file old new
  pub refusal : IsRefusal file status

-- it was read and loaded, and the input wasn't read
pub record HasNoInput (elf input : List ℕ) (status : Status) (old new : World) : Type 0 where
  pub mid : World
  pub file : List ℕ
  pub has : IsRead (Opened elf) (old.contents elf) (2 ^ 26) file old mid
  pub bare : Img
  pub only : IsOnlyImage file bare
  pub e : FileErr
  pub is : status ≡ stop_of e files.Input
  pub unread : IsNotRead (Opened input) (old.contents input) (2 ^ 24 - 8) e mid new

-- how a command stops where the program isn't had
abbrev pub HasNoProgram : List ℕ → List ℕ → Status → World → World → Type 0
HasNoProgram elf input status old new = HasNoFile elf status old new ⊎ (HasRefused elf status old new ⊎ HasNoInput elf input status old new)

-- a command stopped before its report: what it asked for, read and created, against its outcome
abbrev pub Stops : Outcome → Status → World → World → Type 0
Stops o statuses.HostFault old new = IsUnreported o old new
Stops o statuses.NoMemory old new = IsUnreported o old new
Stops o status old new = Asks o.names old new × (o ≡ refused o.names status) × AreRead (Some status) old new

-- the tables of a run that halts were made, or how its outcome ends without
abbrev pub IsMaking : Img → ℕ → Result Made Status → Type 0
IsMaking image steps (Ok made) = (names : List Asked) (tables : List ℕ) → of_making names tables image steps (end_within image steps) ≡ of_made names tables made.witness made.steps made.public
IsMaking image steps (Err statuses.NoMemory) = Unit {0}
IsMaking image steps (Err statuses.HostFault) = ⊥
IsMaking image steps (Err status) = (names : List Asked) (tables : List ℕ) → of_making names tables image steps (end_within image steps) ≡ refused names status

-- the image's run halts within fewer than 2^32 steps
abbrev pub Halts : Img → Type 0
Halts image = (n : ℕ) × (public : Public) × (n < 2 ^ 32) × RunsTo image n public

-- its number of steps, its public output and its tables
abbrev pub IsHalted : Img → Made → Type 0
IsHalted image made = (end_within image 4294967295 ≡ Halted made.steps made.public) × (made.witness ≡ sequential_witness image made.steps made.public)

-- the work before the tables are written led to them, or stopped
abbrev pub LeadsToTables : List Asked → List ℕ → Outcome → Result Made Status → World → World → Type 0
LeadsToTables names tables o (Ok made) old new = Asks names old new × AreReadOut old new × (o ≡ of_made names tables made.witness made.steps made.public)
LeadsToTables names tables o (Err status) old new = Stops o status old new

-- the file of this name was created, and these bytes are behind it
pub record HasBehind (name bytes : List ℕ) (old new : World) : Type 0 where
  pub asked : new.asked ≡ old.asked ++ Created name ∷ []
  pub contents : new.contents ≡ with_bytes old.contents name bytes
  pub reported : new.reported ≡ old.reported
  pub left : new.left ≡ old.left

-- the file wasn't created, or a front of it is behind its name
abbrev pub IsCut : List ℕ → List ℕ → World → World → Type 0
IsCut name bytes old new = AsksAtMost (Created name ∷ []) old new ⊎ ((front : ℕ) × HasBehind name (take front bytes) old new)

-- the text reads as these namespaces and in no other way
abbrev pub IsOnlyText : List ℕ → List Namespace → Type 0
IsOnlyText text ns = ((other : List Namespace) → Reads text other → other ≡ ns) × ((e : PilErr) → Fails text e → ⊥)

-- the text has this refusal and nothing else
abbrev pub IsOnlyFault : List ℕ → PilErr → Type 0
IsOnlyFault text e = ((ns : List Namespace) → Reads text ns → ⊥) × ((other : PilErr) → Fails text other → other ≡ e)

-- a text was refused, or memory ran out
abbrev pub IsTextRefusal : List ℕ → Status → Type 0
IsTextRefusal text status = (status ≡ statuses.NoMemory) ⊎ ((e : PilErr) × (status ≡ statuses.BadPil e) × IsOnlyFault text e)

-- under the shape the file reads as these tables and in no other way
abbrev pub IsOnlyTables : List ℕ → Shape → Witness → Type 0
IsOnlyTables file shape witness = ((other : Witness) → TabReads file shape other → other ≡ witness) × ((kind : TabKind) (at : ℕ) → TabFails file shape kind at → ⊥)

-- under the shape the file has this refusal and nothing else
abbrev pub IsOnlyFailure : List ℕ → Shape → TabKind → ℕ → Type 0
IsOnlyFailure file shape kind at = ((witness : Witness) → TabReads file shape witness → ⊥) × ((k : TabKind) (n : ℕ) → TabFails file shape k n → (k ≡ kind) × (n ≡ at))

-- a table file was refused, or memory ran out
abbrev pub IsTablesRefusal : List ℕ → Shape → Status → Type 0
IsTablesRefusal file shape status = (status ≡ statuses.NoMemory) ⊎ ((kind : TabKind) × (at : ℕ) × (status ≡ statuses.BadTables (record { kind = kind; at = at })) × IsOnlyFailure file shape kind at)

-- a status that may come at any time
abbrev pub IsEarly : Status → Type 0
IsEarly status = (status ≡ statuses.HostFault) ⊎ (status ≡ statuses.NoMemory)

-- what a public names is in range
abbrev pub IsPublicIn : Columns → Line → Type 0
IsPublicIn c (published name s k r) = (s < c.spaces) × (k < c.width s) × (r < c.rows s)
IsPublicIn c _ = Unit {0}

-- a stage that can end in the ways On led to its report, or to how it ends without
abbrev pub Comes : (List Asked → Outcome → Type 0) → Result (Vec ℕ Global) Status → Type 0
Comes On (Ok text) = (names : List Asked) (o : Outcome) → On names o → o ≡ reporting names statuses.Done text.items
Comes On (Err statuses.NoMemory) = Unit {0}
Comes On (Err statuses.HostFault) = ⊥
Comes On (Err status) = (names : List Asked) (o : Outcome) → On names o → o ≡ refused names status

-- the work before the report led to its text, or stopped
abbrev pub Leads : Outcome → Result (Vec ℕ Global) Status → World → World → Type 0
Leads o (Ok text) old new = (o.status ≡ Some statuses.Done) × (o.report ≡ text.items) × HasReported o [] old new
Leads o (Err status) old new = Stops o status old new
