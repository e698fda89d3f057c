-- The items of a table file, and what is wrong with each.
use Rattle.std.specs.Prelude.{ℕ, suc, ◌+◌, ◌-◌, ◌*◌, Bool, ◌==◌, ◌&&◌, ◌||◌, nat_lt, nat_le, if◌then◌else◌, List, [], ◌∷◌, length, take, drop, replicate, Option, None, Some}
use Rattle.std.specs.Option.{option_or}
use Rattle.std.specs.Int.{Width, w32, w64, byte_len, from_le_bytes}
use Rattle.std.specs.List.{flat_map}
use Rattle.gold.specs.Field.{p}
use Rattle.gold.specs.declared.shapes.AirShape.{AirShape}
use Rattle.tab_file.specs.declared.fault.TabErr.{TabErr}
use Rattle.tab_file.specs.declared.fault.TabKind.{TabKind}
use Rattle.tab_file.specs.declared.fault.TabKind.TheVariants.{Short, BadProfile, BadAir, NoMain, NotOneOut, TooMany, BadOrder, BadShape, NotCanonical, Trailing}
use Rattle.gold.specs.Shapes.{Place, is_main, is_out}

-- the kind and the offset
abbrev pub failure : TabKind → ℕ → TabErr
failure kind at = record { kind = kind; at = at }

-- one number of the file, of one width, and what is wrong with a number that stands there at an offset
pub record Item : Type 0 where
  pub width : Width
  pub wrong : ℕ → ℕ → Option TabErr

-- the number that begins at an offset
abbrev pub number_at : Width → List ℕ → ℕ → ℕ
number_at w bytes at = from_le_bytes w (take (byte_len w) (drop at bytes))

-- what is wrong with the item at an offset: it isn't whole, or its number is wrong
abbrev pub wrong_at : List ℕ → ℕ → Item → Option TabErr
wrong_at bytes at item =
    if nat_lt (length bytes) (at + byte_len item.width) then Some (failure Short (length bytes))
    else item.wrong at (number_at item.width bytes at)

-- the first item that fails, where the items follow one another from an offset on and nothing follows the last
abbrev pub first_failure : List ℕ → ℕ → List Item → Option TabErr
first_failure bytes at [] = if nat_lt at (length bytes) then Some (failure Trailing at) else None
first_failure bytes at (item ∷ items) = option_or (wrong_at bytes at item) (first_failure bytes (at + byte_len item.width) items)

-- ---- the items of the format

-- the number n and no other; what is wrong is told of the place that many bytes before
abbrev pub exactly : ℕ → TabKind → ℕ → Item
exactly n kind back = record { width = w32; wrong = λ at v. if v == n then None else Some (failure kind (at - back)) }

-- the number of a profile, 1 or 2
abbrev pub profile_item : Item
profile_item = record { width = w32; wrong = λ at v. if v == 1 || v == 2 then None else Some (failure BadProfile at) }

-- the number of instances of an air
abbrev pub count_wrong : Bool → ℕ → AirShape → ℕ → ℕ → Option TabErr
count_wrong machine a form at v =
    if is_out machine a then (if v == 1 then None else Some (failure NotOneOut at))
    else (if is_main machine a && (v == 0) then Some (failure NoMain at)
    else (if nat_le v form.most then None else Some (failure TooMany at)))

abbrev pub count_item : Bool → ℕ → AirShape → Item
count_item machine a form = record { width = w32; wrong = count_wrong machine a form }

-- the numbers of instances of the airs from the air a on
abbrev pub count_items : Bool → ℕ → List AirShape → List Item
count_items machine a [] = []
count_items machine a (f ∷ fs) = count_item machine a f ∷ count_items machine (suc a) fs

-- the air of an instance, of so many airs
abbrev pub air_item : ℕ → ℕ → Item
air_item airs a = record {
  width = w32;
  wrong = λ at v. if nat_lt v airs then (if v == a then None else Some (failure BadOrder at)) else Some (failure BadAir at);
}

-- a value
abbrev pub value_item : Item
value_item = record { width = w64; wrong = λ at v. if nat_lt v p then None else Some (failure NotCanonical at) }

-- the instance that stands at a place
abbrev pub instance_items : ℕ → Place → List Item
instance_items airs place =
    air_item airs place.air ∷ exactly place.instance BadOrder 4 ∷ exactly place.form.columns BadShape 0
    ∷ exactly place.form.rows BadShape 0 ∷ replicate (place.form.columns * place.form.rows) value_item

-- the instances that stand at places
abbrev pub places_items : ℕ → List Place → List Item
places_items airs places = flat_map (instance_items airs) places
