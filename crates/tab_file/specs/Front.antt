-- A file of which a front has come: what has passed of it, and which tables are whole.
use Rattle.std.specs.Prelude.{◌≡◌, ℕ, ◌+◌, ◌*◌, nat_le, if◌then◌else◌, List, [], ◌∷◌, ◌++◌, length, None, MatchOption}
use Rattle.std.specs.Int.{byte_len}
use Rattle.gold.specs.declared.instances.Table.{Table}
use Rattle.gold.specs.declared.instances.Witness.{Witness}
use Rattle.gold.specs.declared.shapes.Form.{Form}
use Rattle.gold.specs.declared.shapes.Form.TheVariants.{Plain, One, Two}
use Rattle.gold.specs.declared.shapes.Shape.{Shape}
use Rattle.gold.specs.Shapes.{Place, is_machine, counts_of, places_from}
use Rattle.tab_file.specs.declared.fault.TabKind.TheVariants.{Short, BadMagic}
use Rattle.tab_file.specs.Items.{Item, wrong_at, first_failure, exactly, count_items}
use Rattle.tab_file.specs.Reading.{version_items, front_items, front_end, promised_profile, promised_airs, promised_counts, items}
use Rattle.tab_file.specs.Steps.{table_at, instance_len}

-- the items follow one another from an offset on; each of them has come and passes
abbrev pub AllPass : List ℕ → ℕ → List Item → Type 0
AllPass bytes at [] = Unit {0}
AllPass bytes at (item ∷ items) = (wrong_at bytes at item ≡ None) × AllPass bytes (at + byte_len item.width) items

-- the items up to the profile's number, which format 1 doesn't have
abbrev pub profile_items : Form → List Item
profile_items Plain = []
profile_items One = []
profile_items Two = exactly 0x5457_4b5a BadMagic 0 ∷ version_items Two

-- the offset after them
abbrev pub profile_end : Form → ℕ
profile_end Plain = 0
profile_end One = 0
profile_end Two = 12

-- the profile has come and passed; in format 1 it is known from the start
abbrev pub ProfileHasCome : List ℕ → Form → Type 0
ProfileHasCome bytes form = AllPass bytes 0 (profile_items form)

-- the items up to the last number of instances
abbrev pub header_items : List ℕ → Shape → List Item
header_items bytes shape = front_items shape.form (length shape.airs) ++ count_items (is_machine shape.form) 0 (promised_airs bytes shape)

-- the numbers of instances have come and passed
abbrev pub CountsHaveCome : List ℕ → Shape → Type 0
CountsHaveCome bytes shape = AllPass bytes 0 (header_items bytes shape)

-- the places of all instances that the file's header promises
abbrev pub promised_places : List ℕ → Shape → List Place
promised_places bytes shape = places_from 0 (promised_airs bytes shape) (promised_counts bytes shape)

-- the offset after the header
abbrev pub header_end : List ℕ → Shape → ℕ
header_end bytes shape = front_end shape.form + 4 * length (promised_airs bytes shape)

-- the first of the instances from an offset on whose bytes have all come
abbrev pub whole_from : List ℕ → ℕ → List Place → List Table
whole_from bytes at [] = []
whole_from bytes at (p ∷ ps) = if nat_le (at + instance_len p) (length bytes) then table_at bytes at p ∷ whole_from bytes (at + instance_len p) ps else []

-- the tables whose bytes have all come, in the file's order
abbrev pub whole_tables : List ℕ → Shape → List Table
whole_tables bytes shape = whole_from bytes (header_end bytes shape) (promised_places bytes shape)

-- no item whose bytes have all come fails
abbrev pub NoneFailsYet : List ℕ → Shape → Type 0
NoneFailsYet bytes shape = MatchOption (first_failure bytes 0 (items bytes shape)) (Unit {0}) (λ e. e.kind ≡ Short)

-- these tables, in the profile that the header tells
abbrev pub witness_of : List ℕ → Shape → Witness
witness_of bytes shape = record { profile = promised_profile bytes shape.form; tables = whole_tables bytes shape }

-- the header of bytes has passed, and is that of the bytes with more after them
pub record SameHeader (bytes longer : List ℕ) (shape : Shape) : Type 0 where
  pub come : CountsHaveCome longer shape
  pub profile : promised_profile longer shape.form ≡ promised_profile bytes shape.form
  pub counts : promised_counts longer shape ≡ promised_counts bytes shape

-- the file's tables are whole and all, and there are as many of each air as its header tells
pub record IsAllOf (bytes : List ℕ) (shape : Shape) (witness : Witness) : Type 0 where
  pub come : CountsHaveCome bytes shape
  pub none : NoneFailsYet bytes shape
  pub is : witness ≡ witness_of bytes shape
  pub counts : counts_of shape witness ≡ promised_counts bytes shape
