-- What a table file reads as under a shape, and which item of it fails first.
use Rattle.std.specs.Prelude.{◌≡◌, ℕ, Bool, zero, suc, ◌+◌, ◌==◌, if◌then◌else◌, List, [], ◌∷◌, ◌++◌, length, Some}
use Rattle.std.specs.Int.{Width, w32, byte_len}
use Rattle.gold.specs.declared.instances.Witness.{Witness}
use Rattle.gold.specs.declared.shapes.AirShape.{AirShape}
use Rattle.gold.specs.declared.shapes.Form.{Form}
use Rattle.gold.specs.declared.shapes.Form.TheVariants.{Plain, One, Two}
use Rattle.gold.specs.declared.shapes.Profile.{Profile}
use Rattle.gold.specs.declared.shapes.Profile.TheVariants.{Small, Wide}
use Rattle.gold.specs.declared.shapes.Shape.{Shape}
use Rattle.tab_file.specs.declared.fault.TabKind.{TabKind}
use Rattle.tab_file.specs.declared.fault.TabKind.TheVariants.{BadMagic, BadVersion, BadAir}
use Rattle.tab_file.specs.Format.{text}
use Rattle.gold.specs.Shapes.{HaveShape, is_machine, in_profile, places_from}
use Rattle.tab_file.specs.Items.{Item, failure, number_at, first_failure, exactly, profile_item, count_items, places_items}

-- the bytes are the text of these tables, which have the shape
pub record TabReads (bytes : List ℕ) (shape : Shape) (witness : Witness) : Type 0 where
  pub shaped : HaveShape shape witness
  pub spelled : bytes ≡ text shape witness

-- the numbers that stand one after the other from an offset on
abbrev pub numbers_from : Width → List ℕ → ℕ → ℕ → List ℕ
numbers_from w bytes at zero = []
numbers_from w bytes at (suc n) = number_at w bytes at ∷ numbers_from w bytes (at + byte_len w) n

-- the version, and in format 2 the profile
abbrev pub version_items : Form → List Item
version_items Plain = exactly 1 BadVersion 0 ∷ []
version_items One = exactly 1 BadVersion 0 ∷ []
version_items Two = exactly 2 BadVersion 0 ∷ profile_item ∷ []

-- the offset after them
abbrev pub version_end : Form → ℕ
version_end Plain = 8
version_end One = 8
version_end Two = 12

-- the magic, the version and the profile, and the number of airs
abbrev pub front_items : Form → ℕ → List Item
front_items form airs = exactly 0x5457_4b5a BadMagic 0 ∷ (version_items form ++ exactly airs BadAir 0 ∷ [])

-- the offset after them
abbrev pub front_end : Form → ℕ
front_end form = version_end form + 4

-- the profile of a number: 2 is Wide
abbrev pub profile_of : ℕ → Profile
profile_of n = if n == 2 then Wide else Small

-- the profile, as the file's header promises it: format 1 has Small alone
abbrev pub promised_profile : List ℕ → Form → Profile
promised_profile bytes Plain = Small
promised_profile bytes One = Small
promised_profile bytes Two = profile_of (number_at w32 bytes 8)

-- the shape's airs in that profile
abbrev pub promised_airs : List ℕ → Shape → List AirShape
promised_airs bytes shape = in_profile (promised_profile bytes shape.form) shape.airs

-- the numbers of instances of each air, as the file's header promises them
abbrev pub promised_counts : List ℕ → Shape → List ℕ
promised_counts bytes shape = numbers_from w32 bytes (front_end shape.form) (length (promised_airs bytes shape))

-- the numbers of instances of these airs, of a machine or not, and the instances, so many of each
abbrev pub body_items : Bool → List AirShape → List ℕ → List Item
body_items machine airs counts = count_items machine 0 airs ++ places_items (length airs) (places_from 0 airs counts)

-- the items of the file in order: the front, and what it promises
abbrev pub items : List ℕ → Shape → List Item
items bytes shape =
    front_items shape.form (length shape.airs)
    ++ body_items (is_machine shape.form) (promised_airs bytes shape) (promised_counts bytes shape)

-- the first item of the file that fails is wrong in this way, at this offset
abbrev pub TabFails : List ℕ → Shape → TabKind → ℕ → Type 0
TabFails bytes shape kind at = first_failure bytes 0 (items bytes shape) ≡ Some (failure kind at)
