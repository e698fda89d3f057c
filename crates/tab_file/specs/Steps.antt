-- How the reader goes over the items, one after the other. Only contracts of private functions speak of it.
use Rattle.std.specs.Prelude.{◌≡◌, ◌≢◌, ℕ, zero, suc, ◌+◌, ◌*◌, ◌≤◌, List, [], ◌∷◌, ◌++◌, length, Some}
use Rattle.std.specs.Int.{w32, w64}
use Rattle.gold.specs.declared.instances.Table.{Table}
use Rattle.gold.specs.declared.shapes.AirShape.{AirShape}
use Rattle.tab_file.specs.declared.fault.TabErr.{TabErr}
use Rattle.tab_file.specs.declared.fault.TabKind.TheVariants.{NoMemory}
use Rattle.gold.specs.declared.shapes.Shape.{Shape}
use Rattle.gold.specs.Shapes.{Place, places_from}
use Rattle.gold.specs.declared.instances.Witness.{Witness}
use Rattle.tab_file.specs.Items.{Item, failure, number_at, first_failure, places_items}
use Rattle.tab_file.specs.Reading.{numbers_from, front_end, promised_profile, promised_airs, promised_counts}

-- the items stand at an offset, none of them fails, and what follows them goes on at next
pub record Pass (bytes : List ℕ) (at : ℕ) (items : List Item) (next : ℕ) : Type 0 where
  pub whole : next ≤ length bytes
  pub rest : (more : List Item) → first_failure bytes at (items ++ more) ≡ first_failure bytes next more

-- memory ran out
abbrev pub out_of_memory : TabErr
out_of_memory = failure NoMemory 0

-- the items stand at an offset, and one of them fails first, unless memory ran out
abbrev pub Fail : List ℕ → ℕ → List Item → TabErr → Type 0
Fail bytes at items e = e ≢ out_of_memory → (more : List Item) → first_failure bytes at (items ++ more) ≡ Some e

-- so many columns of so many rows each, from an offset on
abbrev pub columns_from : List ℕ → ℕ → ℕ → ℕ → List (List ℕ)
columns_from bytes at zero rows = []
columns_from bytes at (suc n) rows = numbers_from w64 bytes at rows ∷ columns_from bytes (at + 8 * rows) n rows

-- the instance at an offset, which is to stand at a place
abbrev pub table_at : List ℕ → ℕ → Place → Table
table_at bytes at p = record {
  air = number_at w32 bytes at;
  instance = number_at w32 bytes (at + 4);
  columns = columns_from bytes (at + 16) p.form.columns p.form.rows;
}

-- how many bytes the instance of a place has
abbrev pub instance_len : Place → ℕ
instance_len p = 16 + 8 * (p.form.columns * p.form.rows)

-- the place of an instance of an air
abbrev pub place : ℕ → AirShape → ℕ → Place
place a form i = record { air = a; instance = i; form = form }

-- how many bytes the instances of the places have
abbrev pub places_len : List Place → ℕ
places_len [] = 0
places_len (p ∷ ps) = instance_len p + places_len ps

-- the instances from an offset on
abbrev pub tables_from : List ℕ → ℕ → List Place → List Table
tables_from bytes at [] = []
tables_from bytes at (p ∷ ps) = table_at bytes at p ∷ tables_from bytes (at + instance_len p) ps

-- the tables that the file's header promises: so many instances of each of these airs, from the counts on
abbrev pub body_tables : List ℕ → ℕ → List AirShape → List ℕ → List Table
body_tables bytes start airs counts = tables_from bytes (start + 4 * length airs) (places_from 0 airs counts)

abbrev pub promised : List ℕ → Shape → Witness
promised bytes shape = record {
  profile = promised_profile bytes shape.form;
  tables = body_tables bytes (front_end shape.form) (promised_airs bytes shape) (promised_counts bytes shape);
}

-- the number of rows, which the first column tells
abbrev pub height : List (List ℕ) → ℕ
height [] = 0
height (c ∷ cs) = length c

-- of the instances of ps, which were to be read from start on and put after the tables before, those of qs
-- are left: they are to be read from at on and put after the tables so far
pub record Leaves (bytes : List ℕ) (airs start : ℕ) (ps : List Place) (before : List Table) (at : ℕ) (qs : List Place) (so_far : List Table) : Type 0 where
  pub whole : at ≤ length bytes
  pub tables : so_far ++ tables_from bytes at qs ≡ before ++ tables_from bytes start ps
  pub len : at + places_len qs ≡ start + places_len ps
  pub rest : (more : List Item) →
      first_failure bytes start (places_items airs ps ++ more) ≡ first_failure bytes at (places_items airs qs ++ more)
