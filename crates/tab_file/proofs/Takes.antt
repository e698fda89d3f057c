-- What is read without a failure is spelled so.
use Rattle.std.proofs.Common.{◌≡◌, ℕ, zero, suc, ◌+◌, ◌*◌, ◌-◌, ◌^◌, ◌<◌, ◌≤◌, Bool, true, false, cond, ltb, leb, eqb, List, [], ◌∷◌, ◌++◌, length, replicate, All, Option, None, Some, refl, sym, ap, subst, ◌∙◌, append_assoc, arith}
use Rattle.std.specs.Prelude.{MatchBool, ◌&&◌}
use Rattle.std.specs.Option.{option_or}
use Rattle.std.specs.Int.{w32, w64, byte_len}
use Rattle.std.specs.List.{flat_map, AllByRecursion}
use Rattle.std.proofs.lemmas.Bool.{ltb-true, ltb-false, leb-true, eqb-true, eqb-false}
use Rattle.std.proofs.lemmas.List.{replicate-append-replicate}
use Rattle.std.proofs.lemmas.List.Elements.{All-nil, All-cons}
use Rattle.gold.specs.Field.{p, IsCanonical, AreCanonical}
use Rattle.gold.specs.declared.instances.Table.{Table}
use Rattle.gold.specs.declared.shapes.AirShape.{AirShape}
use Rattle.tab_file.specs.declared.fault.TabErr.{TabErr}
use Rattle.tab_file.specs.declared.fault.TabKind.{TabKind}
use Rattle.tab_file.specs.declared.fault.TabKind.TheVariants.{BadOrder, BadShape, BadAir, NotCanonical, NoMain, NotOneOut, TooMany}
use Rattle.tab_file.specs.Format.{number, value, instance_text}
use Rattle.gold.specs.Shapes.{Place, Fits, Fill, is_main, is_out, IsCount, AreCounts}
use Rattle.tab_file.specs.Items.{Item, failure, number_at, wrong_at, first_failure, exactly, count_wrong, count_item, count_items, air_item, value_item, instance_items, places_items}
use Rattle.tab_file.specs.Reading.{numbers_from}
use Rattle.tab_file.specs.Steps.{columns_from, table_at, tables_from, instance_len, places_len}
use Rattle.tab_file.proofs.Going.{length-numbers_from}
use Rattle.tab_file.proofs.Stands.{Stands, Stands-none, Stands-then, IsBytes, wide32, wide64, number_at-below, Stands-number}

-- ---- one item

abbrev none : Option TabErr
none = None

pub both_none : (a b : Option TabErr) → option_or a b ≡ None → (a ≡ None) × (b ≡ None)
both_none None b e = (refl, e)
both_none (Some x) b e = absurd cc

-- a test that names nothing wrong
pub passed : (b : Bool) (e : TabErr) → cond b none (Some e) ≡ None → b ≡ true
passed true e h = refl
passed false e h = absurd cc

pub not_short : (b : Bool) (e : TabErr) (o : Option TabErr) → cond b (Some e) o ≡ None → (b ≡ false) × (o ≡ None)
not_short true e o h = absurd cc
not_short false e o h = (refl, h)

-- an item that is whole, and whose number is not wrong
pub record Taken (bytes : List ℕ) (at : ℕ) (item : Item) (more : List Item) : Type 0 where
  pub whole : at + byte_len item.width ≤ length bytes
  pub right : item.wrong at (number_at item.width bytes at) ≡ None
  pub rest : first_failure bytes (at + byte_len item.width) more ≡ None

pub item_taken : (bytes : List ℕ) (at : ℕ) (item : Item) (more : List Item) → first_failure bytes at (item ∷ more) ≡ None → Taken bytes at item more
item_taken bytes at item more h =
    let split = both_none (wrong_at bytes at item) (first_failure bytes (at + byte_len item.width) more) h in
    let whole = not_short (ltb (length bytes) (at + byte_len item.width)) _ (item.wrong at (number_at item.width bytes at)) split.0 in
    record { whole = ltb-false (length bytes) (at + byte_len item.width) whole.0; right = whole.1; rest = split.1 }

-- a text that stands at an offset, and the items after it, of which none fails
pub record Text (bytes : List ℕ) (at : ℕ) (text : List ℕ) (next : ℕ) (more : List Item) : Type 0 where
  pub stands : Stands bytes at text next
  pub rest : first_failure bytes next more ≡ None

pub Text-then : (bytes : List ℕ) (at m n : ℕ) (xs ys : List ℕ) (is js : List Item) → Text bytes at xs m is → Text bytes m ys n js → Text bytes at (xs ++ ys) n js
Text-then bytes at m n xs ys is js s t = record { stands = Stands-then bytes at m n xs ys s.stands t.stands; rest = t.rest }

pub exactly_taken : (bytes : List ℕ) (at n : ℕ) (kind : TabKind) (back : ℕ) (more : List Item) → IsBytes bytes → first_failure bytes at (exactly n kind back ∷ more) ≡ None
    → Text bytes at (number n) (at + 4) more × (n < 2 ^ 32) × (number_at w32 bytes at ≡ n)
exactly_taken bytes at n kind back more fits h =
    let t = item_taken bytes at (exactly n kind back) more h in
    let is : number_at w32 bytes at ≡ n = eqb-true (number_at w32 bytes at) n (passed (eqb (number_at w32 bytes at) n) (failure kind (at - back)) t.right) in (
      record { stands = subst (λ (v : ℕ). Stands bytes at (number v) (at + 4)) is (Stands-number w32 (2 ^ 32) wide32 bytes at fits t.whole); rest = t.rest },
      subst (λ (v : ℕ). v < 2 ^ 32) is (number_at-below w32 (2 ^ 32) wide32 bytes at fits),
      is,
    )

-- ---- values and columns

values_taken : (bytes : List ℕ) (at n : ℕ) (more : List Item) → IsBytes bytes → at ≤ length bytes → first_failure bytes at (replicate n value_item ++ more) ≡ None
    → Text bytes at (flat_map value (numbers_from w64 bytes at n)) (at + 8 * n) more × IsCanonical (numbers_from w64 bytes at n)
values_taken bytes at zero more fits le h =
    let e : at ≡ at + 8 * 0 = omega arith in
    (subst (λ (m : ℕ). Text bytes at [] m more) e (record { stands = Stands-none bytes at le; rest = h }), All-nil (λ v. v < p))
values_taken bytes at (suc n) more fits le h =
    let t = item_taken bytes at value_item (replicate n value_item ++ more) h in
    let v = number_at w64 bytes at in
    let below : number_at w64 bytes at < p = ltb-true v p (passed (ltb v p) (failure NotCanonical at) t.right) in
    let first : Text bytes at (value v) (at + 8) (replicate n value_item ++ more) = record { stands = Stands-number w64 (2 ^ 64) wide64 bytes at fits t.whole; rest = t.rest } in
    let others = values_taken bytes (at + 8) n more fits t.whole t.rest in
    let e : at + 8 + 8 * n ≡ at + 8 * suc n = omega arith in (
      subst (λ (m : ℕ). Text bytes at (flat_map value (numbers_from w64 bytes at (suc n))) m more) e
          (Text-then bytes at (at + 8) (at + 8 + 8 * n) (value v) (flat_map value (numbers_from w64 bytes (at + 8) n)) (replicate n value_item ++ more) more first others.0),
      All-cons (λ (u : ℕ). u < p) v (numbers_from w64 bytes (at + 8) n) below others.1,
    )

-- what the columns that are read have
pub record Columns (columns : List (List ℕ)) (n rows : ℕ) : Type 0 where
  pub count : length columns ≡ n
  pub heights : All (λ c. length c ≡ rows) columns
  pub canonical : AreCanonical columns

columns_taken : (bytes : List ℕ) (at n rows : ℕ) (more : List Item) → IsBytes bytes → at ≤ length bytes → first_failure bytes at (replicate (n * rows) value_item ++ more) ≡ None
    → Text bytes at (flat_map (flat_map value) (columns_from bytes at n rows)) (at + 8 * (n * rows)) more × Columns (columns_from bytes at n rows) n rows
columns_taken bytes at zero rows more fits le h =
    let z : 0 * rows ≡ 0 = omega arith in
    let e : at ≡ at + 8 * (0 * rows) = omega (arith, z) in
    let none_left : first_failure bytes at more ≡ None = subst (λ (k : ℕ). first_failure bytes at (replicate k value_item ++ more) ≡ None) z h in (
      subst (λ (m : ℕ). Text bytes at [] m more) e (record { stands = Stands-none bytes at le; rest = none_left }),
      record { count = refl; heights = All-nil (λ c. length c ≡ rows); canonical = All-nil IsCanonical },
    )
columns_taken bytes at (suc n) rows more fits le h =
    let s : suc n * rows ≡ rows + n * rows = omega arith in
    let parted : replicate (suc n * rows) value_item ++ more ≡ replicate rows value_item ++ (replicate (n * rows) value_item ++ more) =
    ap (λ (k : ℕ). replicate k value_item ++ more) s ∙ ap (λ (is : List Item). is ++ more) (sym (replicate-append-replicate rows (n * rows) value_item))
    ∙ append_assoc (replicate rows value_item) (replicate (n * rows) value_item) more in
    let first = values_taken bytes at rows (replicate (n * rows) value_item ++ more) fits le (sym (ap (first_failure bytes at) parted) ∙ h) in
    let others = columns_taken bytes (at + 8 * rows) n rows more fits first.0.stands.whole first.0.rest in
    let column = numbers_from w64 bytes at rows in
    let later = columns_from bytes (at + 8 * rows) n rows in
    let e : at + 8 * rows + 8 * (n * rows) ≡ at + 8 * (suc n * rows) = omega arith in (
      subst (λ (m : ℕ). Text bytes at (flat_map value column ++ flat_map (flat_map value) later) m more) e
          (Text-then bytes at (at + 8 * rows) (at + 8 * rows + 8 * (n * rows)) (flat_map value column) (flat_map (flat_map value) later) (replicate (n * rows) value_item ++ more) more first.0 others.0),
      record {
        count = ap suc others.1.count;
        heights = All-cons (λ (c : List ℕ). length c ≡ rows) column later (length-numbers_from w64 bytes at rows) others.1.heights;
        canonical = All-cons IsCanonical column later first.1 others.1.canonical;
      },
    )

-- ---- instances

right_air : (a b : Bool) (kind : TabErr) (other : TabErr) → cond a (cond b none (Some kind)) (Some other) ≡ None → b ≡ true
right_air true b kind other h = passed b kind h
right_air false b kind other h = absurd cc

air_taken : (bytes : List ℕ) (at airs a : ℕ) (more : List Item) → IsBytes bytes → first_failure bytes at (air_item airs a ∷ more) ≡ None
    → Text bytes at (number a) (at + 4) more × (a < 2 ^ 32) × (number_at w32 bytes at ≡ a)
air_taken bytes at airs a more fits h =
    let t = item_taken bytes at (air_item airs a) more h in
    let v = number_at w32 bytes at in
    let is : number_at w32 bytes at ≡ a = eqb-true v a (right_air (ltb v airs) (eqb v a) (failure BadOrder at) (failure BadAir at) t.right) in (
      record { stands = subst (λ (u : ℕ). Stands bytes at (number u) (at + 4)) is (Stands-number w32 (2 ^ 32) wide32 bytes at fits t.whole); rest = t.rest },
      subst (λ (u : ℕ). u < 2 ^ 32) is (number_at-below w32 (2 ^ 32) wide32 bytes at fits),
      is,
    )

pub instance_taken : (bytes : List ℕ) (at airs : ℕ) (place : Place) (more : List Item) → IsBytes bytes → first_failure bytes at (instance_items airs place ++ more) ≡ None
    → Text bytes at (instance_text place.form.rows (table_at bytes at place)) (at + instance_len place) more × Fits place (table_at bytes at place)
instance_taken bytes at airs place more fits h =
    let n = place.form.columns in
    let r = place.form.rows in
    let values : List Item = replicate (n * r) value_item ++ more in
    let rows : List Item = exactly r BadShape 0 ∷ values in
    let columns : List Item = exactly n BadShape 0 ∷ rows in
    let instance : List Item = exactly place.instance BadOrder 4 ∷ columns in
    let t0 = air_taken bytes at airs place.air instance fits h in
    let t1 = exactly_taken bytes (at + 4) place.instance BadOrder 4 columns fits t0.0.rest in
    let e2 : at + 4 + 4 ≡ at + 8 = omega arith in
    let t2 = exactly_taken bytes (at + 4 + 4) n BadShape 0 rows fits t1.0.rest in
    let t3 = exactly_taken bytes (at + 4 + 4 + 4) r BadShape 0 values fits t2.0.rest in
    let e4 : at + 4 + 4 + 4 + 4 ≡ at + 16 = omega arith in
    let t4 = columns_taken bytes (at + 16) n r more fits (subst (λ (m : ℕ). m ≤ length bytes) e4 t3.0.stands.whole) (subst (λ (m : ℕ). first_failure bytes m values ≡ None) e4 t3.0.rest) in
    let a = number place.air in
    let b = number place.instance in
    let c = number n in
    let d = number r in
    let cells = columns_from bytes (at + 16) n r in
    let last : Text bytes (at + 4 + 4 + 4 + 4) (flat_map (flat_map value) cells) (at + 16 + 8 * (n * r)) more = subst (λ (m : ℕ). Text bytes m (flat_map (flat_map value) cells) (at + 16 + 8 * (n * r)) more) (sym e4) t4.0 in
    let ab = Text-then bytes at (at + 4) (at + 4 + 4) a b instance columns t0.0 t1.0 in
    let abc = Text-then bytes at (at + 4 + 4) (at + 4 + 4 + 4) (a ++ b) c columns rows ab t2.0 in
    let abcd = Text-then bytes at (at + 4 + 4 + 4) (at + 4 + 4 + 4 + 4) (a ++ b ++ c) d rows values abc t3.0 in
    let all = Text-then bytes at (at + 4 + 4 + 4 + 4) (at + 16 + 8 * (n * r)) (a ++ b ++ c ++ d) (flat_map (flat_map value) cells) values more abcd last in
    let e : at + 16 + 8 * (n * r) ≡ at + instance_len place = omega arith in
    let ended = subst (λ (m : ℕ). Text bytes at (a ++ b ++ c ++ d ++ flat_map (flat_map value) cells) m more) e all in
    let is-air : number_at w32 bytes at ≡ place.air = t0.2 in
    let is-instance : number_at w32 bytes (at + 4) ≡ place.instance = t1.2 in
    let is-count : length (columns_from bytes (at + 16) n r) ≡ n = t4.1.count in (
      subst (λ (k : ℕ). Text bytes at (number (number_at w32 bytes at) ++ number (number_at w32 bytes (at + 4)) ++ number k ++ d ++ flat_map (flat_map value) cells) (at + instance_len place) more) (sym is-count)
          (subst (λ (k : ℕ). Text bytes at (number (number_at w32 bytes at) ++ number k ++ c ++ d ++ flat_map (flat_map value) cells) (at + instance_len place) more) (sym is-instance)
          (subst (λ (k : ℕ). Text bytes at (number k ++ b ++ c ++ d ++ flat_map (flat_map value) cells) (at + instance_len place) more) (sym is-air) ended)),
      record {
        air = is-air;
        instance = is-instance;
        columns = is-count;
        rows = t4.1.heights;
        canonical = t4.1.canonical;
        bits = record { air = t0.1; instance = t1.1; columns = t2.1; rows = t3.1 };
      },
    )

-- the place's air is one of so many, and its rows are those of that air
pub record IsKnown (airs : ℕ) (rows : ℕ → ℕ) (place : Place) : Type 0 where
  pub below : place.air < airs
  pub height : rows place.air ≡ place.form.rows

abbrev pub AreKnown : ℕ → (ℕ → ℕ) → List Place → Type 0
AreKnown airs rows places = AllByRecursion (IsKnown airs rows) places

pub tables_taken : (bytes : List ℕ) (at airs : ℕ) (rows : ℕ → ℕ) (places : List Place) (more : List Item) → IsBytes bytes → at ≤ length bytes → AreKnown airs rows places
    → first_failure bytes at (places_items airs places ++ more) ≡ None
    → Text bytes at (flat_map (λ t. instance_text (rows t.air) t) (tables_from bytes at places)) (at + places_len places) more × Fill places (tables_from bytes at places)
tables_taken bytes at airs rows [] more fits le known h =
    let e : at ≡ at + 0 = omega arith in
    (subst (λ (m : ℕ). Text bytes at [] m more) e (record { stands = Stands-none bytes at le; rest = h }), tt)
tables_taken bytes at airs rows (place ∷ places) more fits le known h =
    let after : List Item = places_items airs places ++ more in
    let first = instance_taken bytes at airs place after fits (ap (first_failure bytes at) (sym (append_assoc (instance_items airs place) (places_items airs places) more)) ∙ h) in
    let others = tables_taken bytes (at + instance_len place) airs rows places more fits first.0.stands.whole known.1 first.0.rest in
    let table = table_at bytes at place in
    let later = flat_map (λ (t : Table). instance_text (rows t.air) t) (tables_from bytes (at + instance_len place) places) in
    let its : place.form.rows ≡ rows (number_at w32 bytes at) = sym known.0.height ∙ ap rows (sym first.1.air) in
    let front = subst (λ (r : ℕ). Text bytes at (instance_text r table) (at + instance_len place) after) its first.0 in
    let e : at + instance_len place + places_len places ≡ at + (instance_len place + places_len places) = omega arith in (
      subst (λ (m : ℕ). Text bytes at (instance_text (rows table.air) table ++ later) m more) e
          (Text-then bytes at (at + instance_len place) (at + instance_len place + places_len places) (instance_text (rows table.air) table) later after more front others.0),
      (first.1, others.1),
    )

-- ---- the header

other_count : (main zero_count : Bool) (v most : ℕ) (few many : TabErr) → eqb v 0 ≡ zero_count → cond (main && zero_count) (Some few) (cond (leb v most) none (Some many)) ≡ None → (main ≡ true → 0 < v) × (v ≤ most)
other_count true true v most few many e h = absurd cc
other_count true false v most few many e h =
    let above : v ≡ 0 → ⊥ = eqb-false v 0 e in
    ((λ _. omega (arith, above)), leb-true v most (passed (leb v most) many h))
other_count false zero_count v most few many e h = ((λ q. absurd cc), leb-true v most (passed (leb v most) many h))

count_cases : (out main : Bool) (v most : ℕ) (one few many : TabErr) → cond out (cond (eqb v 1) none (Some one)) (cond (main && eqb v 0) (Some few) (cond (leb v most) none (Some many))) ≡ None
    → (main ≡ true → 0 < v) × MatchBool out (v ≡ 1) (v ≤ most)
count_cases true main v most one few many h =
    let is : v ≡ 1 = eqb-true v 1 (passed (eqb v 1) one h) in
    ((λ _. omega (arith, is)), is)
count_cases false main v most one few many h = other_count main (eqb v 0) v most few many refl h

is_count : (machine : Bool) (a : ℕ) (form : AirShape) (at v : ℕ) → v < 2 ^ 32 → count_wrong machine a form at v ≡ None → IsCount machine a form v
is_count machine a form at v bits h =
    let c = count_cases (is_out machine a) (is_main machine a) v form.most (failure NotOneOut at) (failure NoMain at) (failure TooMany at) h in
    record { main = c.0; most = c.1; bits = bits }

pub counts_taken : (bytes : List ℕ) (at : ℕ) (machine : Bool) (a : ℕ) (fs : List AirShape) (more : List Item) → IsBytes bytes → at ≤ length bytes → first_failure bytes at (count_items machine a fs ++ more) ≡ None
    → Text bytes at (flat_map number (numbers_from w32 bytes at (length fs))) (at + 4 * length fs) more × AreCounts machine a fs (numbers_from w32 bytes at (length fs))
counts_taken bytes at machine a [] more fits le h =
    let e : at ≡ at + 4 * 0 = omega arith in
    (subst (λ (m : ℕ). Text bytes at [] m more) e (record { stands = Stands-none bytes at le; rest = h }), tt)
counts_taken bytes at machine a (f ∷ fs) more fits le h =
    let t = item_taken bytes at (count_item machine a f) (count_items machine (suc a) fs ++ more) h in
    let v = number_at w32 bytes at in
    let first : Text bytes at (number v) (at + 4) (count_items machine (suc a) fs ++ more) = record { stands = Stands-number w32 (2 ^ 32) wide32 bytes at fits t.whole; rest = t.rest } in
    let others = counts_taken bytes (at + 4) machine (suc a) fs more fits t.whole t.rest in
    let e : at + 4 + 4 * length fs ≡ at + 4 * suc (length fs) = omega arith in (
      subst (λ (m : ℕ). Text bytes at (number v ++ flat_map number (numbers_from w32 bytes (at + 4) (length fs))) m more) e
          (Text-then bytes at (at + 4) (at + 4 + 4 * length fs) (number v) (flat_map number (numbers_from w32 bytes (at + 4) (length fs))) (count_items machine (suc a) fs ++ more) more first others.0),
      (is_count machine a f at v (number_at-below w32 (2 ^ 32) wide32 bytes at fits) t.right, others.1),
    )
