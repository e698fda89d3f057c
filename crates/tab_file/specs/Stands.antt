-- What a reader by pieces stands for: a shape, and the bytes that were fed.
use Rattle.std.specs.Prelude.{◌≡◌, ◌≢◌, ℕ, ◌+◌, ◌<◌, true, List, [], ◌++◌, length, slice_index, Option, MatchOption, Result, MatchResult, Some}
use Rattle.std.specs.Option.{option_map_or}
use Rattle.gold.specs.declared.instances.Table.{Table}
use Rattle.gold.specs.declared.shapes.Shape.{Shape}
use Rattle.gold.specs.declared.shapes.Profile.{Profile}
use Rattle.tab_file.specs.declared.fault.TabErr.{TabErr}
use Rattle.tab_file.specs.declared.fault.TabKind.TheVariants.{Short, NoMemory}
use Rattle.tab_file.specs.declared.body.Body.{Body}
use Rattle.tab_file.specs.declared.pieces.TabReader.{TabReader}
use Rattle.tab_file.specs.Items.{failure, first_failure}
use Rattle.tab_file.specs.Reading.{promised_profile, promised_airs, promised_counts, items, TabFails}
use Rattle.tab_file.specs.Steps.{Pass, Fail, out_of_memory}
use Rattle.tab_file.specs.Front.{ProfileHasCome, CountsHaveCome, header_items, header_end, promised_places, whole_tables}
use Rattle.tab_file.specs.Parts.{Waits, BodyAt, BodyFails, reach}
use Rattle.gold.specs.Shapes.{places_from}
use Rattle.gold.specs.declared.shapes.AirShape.{AirShape}

abbrev pub AreBytes : List ℕ → Type 0
AreBytes bytes = (i : ℕ) → slice_index bytes i < 256

-- what is known of the header of these bytes: the profile, and how many instances there are
pub record Knows (profile : Option Profile) (body : Option Body) (shape : Shape) (bytes : List ℕ) : Type 0 where
  pub profile_is : MatchOption profile (ProfileHasCome bytes shape.form → ⊥) (λ p. ProfileHasCome bytes shape.form × (p ≡ promised_profile bytes shape.form))
  pub counts_are : MatchOption body (CountsHaveCome bytes shape → ⊥) (λ b. CountsHaveCome bytes shape × (b.coming.counts.items ≡ promised_counts bytes shape))

-- the header isn't whole, and these are all bytes of the file
pub record InHeader (header : List ℕ) (shape : Shape) (fed : List ℕ) : Type 0 where
  pub all : header ≡ fed
  pub short : first_failure fed 0 (items fed shape) ≡ Some (failure Short (length fed))
  pub none : whole_tables fed shape ≡ []

-- in this file, of which the rest hasn't come, the header has passed, and these tables have come whole
pub record InBody (profile : Option Profile) (b : Body) (shape : Shape) (file : List ℕ) (so_far : List Table) (rest : List ℕ) : Type 0 where
  pub knows : Knows profile (Some b) shape file
  pub header : Pass file 0 (header_items file shape) (header_end file shape)
  pub body : BodyAt file (length (promised_airs file shape)) (header_end file shape) (promised_places file shape) so_far rest b

-- the same in each file that begins with what was fed
pub record InAll (profile : Option Profile) (b : Body) (shape : Shape) (fed : List ℕ) : Type 0 where
  pub waits : b.going ≡ true → Waits b.partial
  pub each : (more : List ℕ) → InBody profile b shape (fed ++ more) (whole_tables fed shape) more

-- no item has failed
pub record GoesOn (profile : Option Profile) (body : Option Body) (header : List ℕ) (shape : Shape) (fed : List ℕ) : Type 0 where
  pub bytes : AreBytes fed
  pub knows : Knows profile body shape fed
  pub state : MatchOption body (InHeader header shape fed) (λ b. InAll profile b shape fed)

-- this item fails, whatever comes
pub record HasFailed (profile : Option Profile) (body : Option Body) (shape : Shape) (fed : List ℕ) (e : TabErr) : Type 0 where
  pub kind : e.kind ≢ Short
  pub item : e.kind ≢ NoMemory
  pub knows : (more : List ℕ) → Knows profile body shape (fed ++ more)
  pub fails : (more : List ℕ) → TabFails (fed ++ more) shape e.kind e.at

-- the reader stands for a shape and the bytes that were fed
pub record StandsFor (r : TabReader) (shape : Shape) (fed : List ℕ) : Type 0 where
  pub shape_is : r.shape ≡ shape
  pub state : MatchOption r.failed (GoesOn r.profile r.body r.header.items shape fed) (λ e. HasFailed r.profile r.body shape fed e)

-- memory ran out in a feed
abbrev pub IsOut : TabReader → Type 0
IsOut r = MatchOption r.failed ⊥ (λ e. e.kind ≡ NoMemory)

-- how many bytes it has taken, where no item has failed
abbrev pub reached : Option Body → ℕ → ℕ
reached body header = option_map_or (λ b. reach b.partial) body header

abbrev pub taken : TabReader → ℕ
taken r = option_map_or (λ e. 0) r.failed (reached r.body (length r.header.items))

-- what a feed does of a reader of which no item has failed
abbrev pub Feeds : TabReader → TabReader → List ℕ → List Table → Result (Unit {0}) TabErr → Type 0
Feeds old new piece tables result =
    (shape : Shape) (fed : List ℕ) → old.shape ≡ shape → GoesOn old.profile old.body old.header.items shape fed
    → MatchResult result (λ _. GoesOn new.profile new.body new.header.items shape (fed ++ piece) × (whole_tables fed shape ++ tables ≡ whole_tables (fed ++ piece) shape))
    (λ e. e ≢ out_of_memory → HasFailed new.profile new.body shape (fed ++ piece) e)

-- the instances of a file whose header is whole, and ends at an offset of the bytes that were fed
pub record Opened (airs : List AirShape) (counts : List ℕ) (end : ℕ) (bytes : List ℕ) (b : Body) (tables : List Table) : Type 0 where
  pub counts_are : b.coming.counts.items ≡ counts
  pub waits : b.going ≡ true → Waits b.partial
  pub at : (more : List ℕ) → BodyAt (bytes ++ more) (length airs) end (places_from 0 airs counts) tables more b

-- they don't go on, since an item fails
pub record OpenFails (airs : List AirShape) (counts : List ℕ) (end : ℕ) (bytes : List ℕ) (body : Option Body) (e : TabErr) : Type 0 where
  pub counts_are : MatchOption body ⊥ (λ b. b.coming.counts.items ≡ counts)
  pub fails : (more : List ℕ) → BodyFails (bytes ++ more) (length airs) end (places_from 0 airs counts) e

abbrev pub Opens : List AirShape → List ℕ → ℕ → List ℕ → Option Body → List Table → Result (Unit {0}) TabErr → Type 0
Opens airs counts end bytes body tables result =
    MatchResult result (λ _. MatchOption body ⊥ (λ b. Opened airs counts end bytes b tables))
    (λ e. e ≢ out_of_memory → OpenFails airs counts end bytes body e)
