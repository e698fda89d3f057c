-- How far a reader by pieces is in a file. Only contracts of private functions speak of it.
use Rattle.std.specs.Prelude.{◌≡◌, ◌≢◌, ℕ, zero, suc, ◌+◌, ◌-◌, ◌*◌, ◌<◌, ◌≤◌, ◌⊎◌, List, [], ◌∷◌, ◌++◌, length, replicate, drop, Result, MatchResult, Option, MatchOption, MatchBool, if◌then◌else◌, None, Some}
use Rattle.std.specs.Int.{w32, w64}
use Rattle.gold.specs.declared.instances.Table.{Table}
use Rattle.gold.specs.declared.shapes.AirShape.{AirShape}
use Rattle.gold.specs.declared.shapes.Shape.{Shape}
use Rattle.gold.specs.Shapes.{Place, is_machine, instances_from, places_from}
use Rattle.tab_file.specs.declared.fault.TabErr.{TabErr}
use Rattle.tab_file.specs.declared.fault.TabKind.TheVariants.{Short, BadOrder, BadShape, NoMemory}
use Rattle.tab_file.specs.Front.{profile_items}
use Rattle.gold.specs.declared.shapes.Form.{Form}
use Rattle.tab_file.specs.declared.coming.Due.{Due}
use Rattle.tab_file.specs.declared.coming.Coming.{Coming}
use Rattle.tab_file.specs.declared.partial.Partial.{Partial}
use Rattle.tab_file.specs.declared.body.Body.{Body}
use Rattle.tab_file.specs.Items.{Item, number_at, exactly, air_item, value_item, instance_items, count_items, places_items, first_failure}
use Rattle.tab_file.specs.Reading.{numbers_from, front_items, front_end, promised_airs}
use Rattle.tab_file.specs.Steps.{Pass, Fail, out_of_memory, columns_from, table_at, tables_from, places_len, instance_len, place}

-- ---- the instances that are still to come

-- the place of the instance that is due
abbrev pub place_of : Due → Place
place_of due = place due.number due.form due.instance

-- of these airs, the first of which is a: the instances from the number i of air a on
abbrev pub left_of : List AirShape → List ℕ → ℕ → ℕ → List Place
left_of [] counts a i = []
left_of (f ∷ fs) [] a i = []
left_of (f ∷ fs) (c ∷ cs) a i = instances_from a f i (c - i) ++ places_from (suc a) fs cs

abbrev pub left : Coming → List Place
left c = left_of (drop c.number c.airs.items) (drop c.number c.counts.items) c.number c.instance

-- ---- an instance of which a part has come

-- the four numbers that an instance begins with, by their number
abbrev pub head_item : ℕ → Place → ℕ → Item
head_item airs p zero = air_item airs p.air
head_item airs p (suc zero) = exactly p.instance BadOrder 4
head_item airs p (suc (suc zero)) = exactly p.form.columns BadShape 0
head_item airs p (suc (suc (suc k))) = exactly p.form.rows BadShape 0

-- the first so many of them
abbrev pub head_items : ℕ → Place → ℕ → List Item
head_items airs p zero = []
head_items airs p (suc k) = head_items airs p k ++ head_item airs p k ∷ []

-- how many values have passed
abbrev pub values_so_far : Partial → ℕ
values_so_far g = length g.columns * g.due.form.rows + length g.column

-- the instance of a place begins at an offset of the file; what of it has come has passed, but for the last
-- bytes, which aren't a whole item yet. These and the rest are all bytes of the file that aren't passed yet
pub record Grows (file : List ℕ) (begin n : ℕ) (p : Place) (g : Partial) (rest : List ℕ) : Type 0 where
  pub airs : g.due.airs ≡ n
  pub place : place_of g.due ≡ p
  pub heads : g.heads ≤ 4
  pub early : g.heads < 4 → values_so_far g ≡ 0
  pub most : length g.columns ≤ g.due.form.columns
  pub rows : length g.column ≤ g.due.form.rows
  pub over : g.due.form.columns ≤ length g.columns → length g.column ≡ 0
  pub passed : Pass file begin (head_items n p g.heads ++ replicate (values_so_far g) value_item) g.at
  pub next : g.at ≡ begin + 4 * g.heads + 8 * values_so_far g
  pub air : 0 < g.heads → g.air ≡ number_at w32 file begin
  pub instance : 1 < g.heads → g.due.instance ≡ number_at w32 file (begin + 4)
  pub columns : g.columns ≡ columns_from file (begin + 16) (length g.columns) g.due.form.rows
  pub column : g.column ≡ numbers_from w64 file (begin + 16 + 8 * (length g.columns * g.due.form.rows)) (length g.column)
  pub head_part : g.heads < 4 → length g.part.items ≤ 4
  pub value_part : length g.part.items ≤ 8
  pub busy : 0 < length g.part.items → (g.heads < 4) ⊎ ((length g.columns < g.due.form.columns) × (length g.column < g.due.form.rows))
  pub ahead : drop g.at file ≡ g.part.items ++ rest

-- an item of the instance fails, and not since it isn't whole, or memory ran out
pub record Fails (file : List ℕ) (begin : ℕ) (items : List Item) (e : TabErr) : Type 0 where
  pub kind : e.kind ≢ Short
  pub fail : Fail file begin items e

-- from one state to another, by so many bytes of a piece
abbrev pub Takes : Partial → Partial → List ℕ → Result ℕ TabErr → Type 0
Takes old new piece result =
    (file : List ℕ) (begin n : ℕ) (p : Place) (more : List ℕ) → Grows file begin n p old (piece ++ more)
    → MatchResult result (λ k. Grows file begin n p new (drop k piece ++ more)) (λ e. Fails file begin (instance_items n p) e)

-- so many values that stand at an offset have passed, and were added to a column
pub record Adds (file : List ℕ) (at count : ℕ) (old new : List ℕ) : Type 0 where
  pub values : new ≡ old ++ numbers_from w64 file at count
  pub pass : Pass file at (replicate count value_item) (at + 8 * count)

-- all its items have passed
pub record IsWhole (g : Partial) : Type 0 where
  pub heads : 4 ≤ g.heads
  pub columns : g.due.form.columns ≤ length g.columns

-- only values of the next column came
pub record SameInstance (g h : Partial) : Type 0 where
  pub due : h.due ≡ g.due
  pub heads : h.heads ≡ g.heads
  pub columns : h.columns ≡ g.columns

-- the instance that has come whole is the table, and the bytes after it are the rest
pub record IsTableAt (file : List ℕ) (begin n : ℕ) (p : Place) (t : Table) (g : Partial) (rest : List ℕ) : Type 0 where
  pub table : t ≡ table_at file begin p
  pub pass : Pass file begin (instance_items n p) g.at
  pub end : g.at ≡ begin + instance_len p
  pub part : g.part.items ≡ []
  pub ahead : drop g.at file ≡ rest

-- the next item isn't whole
pub record WaitsForHead (g : Partial) : Type 0 where
  pub heads : g.heads < 4
  pub part : length g.part.items < 4

pub record WaitsForValue (g : Partial) : Type 0 where
  pub heads : 4 ≤ g.heads
  pub columns : length g.columns < g.due.form.columns
  pub rows : length g.column < g.due.form.rows
  pub part : length g.part.items < 8

abbrev pub Waits : Partial → Type 0
Waits g = WaitsForHead g ⊎ WaitsForValue g

-- the offset of what comes next
abbrev pub reach : Partial → ℕ
reach g = g.at + length g.part.items

-- ---- the instances

-- the places that are left, the one of the instance that has begun first
abbrev pub places_left : Body → List Place
places_left b = if b.going then place_of b.partial.due ∷ left b.coming else []

-- all instances before have passed
pub record Done (file : List ℕ) (n start begin : ℕ) (done : List Place) (so_far : List Table) : Type 0 where
  pub begin_is : begin ≡ start + places_len done
  pub tables : so_far ≡ tables_from file start done
  pub pass : Pass file start (places_items n done) begin

-- what stands at an offset, from which on the rest is all bytes of the file that haven't come: the instance that has
-- begun, or none
abbrev pub StandsAt : List ℕ → ℕ → ℕ → Body → List ℕ → Type 0
StandsAt file begin n b rest =
    MatchBool b.going (Grows file begin n (place_of b.partial.due) b.partial rest)
    ((b.partial.at ≡ begin) × (b.partial.part.items ≡ []) × (drop begin file ≡ rest))

-- of the instances of the places, the first of which begins at start, those so far have come whole
pub record BodyAt (file : List ℕ) (n start : ℕ) (ps : List Place) (so_far : List Table) (rest : List ℕ) (b : Body) : Type 0 where
  pub airs : n ≡ length b.coming.airs.items
  pub begin : ℕ
  pub before : List Place
  pub places : ps ≡ before ++ places_left b
  pub done : Done file n start begin before so_far
  pub now : StandsAt file begin n b rest

-- an item of the instances fails, or a byte follows them
pub record BodyFails (file : List ℕ) (n start : ℕ) (ps : List Place) (e : TabErr) : Type 0 where
  pub kind : e.kind ≢ Short
  pub fail : e ≢ out_of_memory → first_failure file start (places_items n ps) ≡ Some e

-- ---- the header

-- the front of a header passes, and a number of instances fails
pub record CountsFail (bytes : List ℕ) (shape : Shape) (e : TabErr) : Type 0 where
  pub pass : Pass bytes 0 (front_items shape.form (length shape.airs)) (front_end shape.form)
  pub fail : Fail bytes (front_end shape.form) (count_items (is_machine shape.form) 0 (promised_airs bytes shape)) e

-- an item of the header fails, or isn't whole
abbrev pub HeaderFails : List ℕ → Shape → TabErr → Type 0
HeaderFails bytes shape e = Fail bytes 0 (front_items shape.form (length shape.airs)) e ⊎ CountsFail bytes shape e

-- an item up to the profile fails, or isn't whole
pub record ProfileFails (bytes : List ℕ) (form : Form) : Type 0 where
  pub failure : TabErr
  pub item : failure.kind ≢ NoMemory
  pub fail : Fail bytes 0 (profile_items form) failure
