-- What is spelled so is read without a failure.
use Rattle.std.proofs.Common.{◌≡◌, ℕ, suc, ◌+◌, ◌*◌, ◌-◌, ◌^◌, ◌<◌, ◌≤◌, Bool, true, false, cond, ltb, leb, eqb, List, [], ◌∷◌, ◌++◌, length, replicate, All, Option, None, Some, refl, sym, ap, subst, ◌∙◌, arith}
use Rattle.std.specs.Prelude.{MatchBool, ◌&&◌, codes}
use Rattle.std.specs.Option.{option_or}
use Rattle.std.specs.Int.{w32, w64, byte_len, to_le_bytes}
use Rattle.std.specs.List.{flat_map}
use Rattle.std.proofs.lemmas.Bool.{lt-ltb, le-ltb, le-leb, eq-eqb}
use Rattle.std.proofs.lemmas.List.{length-append, append-nil, drop_all}
use Rattle.std.proofs.lemmas.List.Elements.{All-head, All-tail}
use Rattle.gold.specs.Field.{p, IsCanonical, AreCanonical}
use Rattle.gold.specs.declared.instances.Table.{Table}
use Rattle.gold.specs.declared.instances.Witness.{Witness}
use Rattle.gold.specs.declared.shapes.AirShape.{AirShape}
use Rattle.gold.specs.declared.shapes.Form.{Form}
use Rattle.gold.specs.declared.shapes.Form.TheVariants.{Plain, One, Two}
use Rattle.gold.specs.declared.shapes.Profile.{Profile}
use Rattle.gold.specs.declared.shapes.Profile.TheVariants.{Small, Wide}
use Rattle.gold.specs.declared.shapes.Shape.{Shape}
use Rattle.tab_file.specs.declared.fault.TabErr.{TabErr}
use Rattle.tab_file.specs.declared.fault.TabKind.{TabKind}
use Rattle.tab_file.specs.declared.fault.TabKind.TheVariants.{BadMagic, BadVersion, BadOrder, BadShape, BadAir, NotCanonical, NoMain, NotOneOut, TooMany}
use Rattle.tab_file.specs.Format.{number, value, profile_number, version, header, instance_text, instances_text, rows_at}
use Rattle.gold.specs.Shapes.{Place, places_from, Fits, Fill, IsProfileOf, is_machine, in_profile, is_main, is_out, IsCount, AreCounts, airs_of, counts_of}
use Rattle.tab_file.specs.Items.{Item, failure, number_at, wrong_at, first_failure, exactly, profile_item, count_item, count_items, air_item, value_item, instance_items, places_items}
use Rattle.tab_file.specs.Reading.{numbers_from, version_items, version_end, front_items, front_end, profile_of, promised_profile, promised_airs, promised_counts, body_items, items, TabReads}
use Rattle.tab_file.specs.Steps.{Pass, columns_from, table_at, tables_from, instance_len, places_len, body_tables, promised}
use Rattle.tab_file.proofs.Going.{Pass-none, Pass-then, Pass-more, Pass-after_four}
use Rattle.tab_file.proofs.Stands.{Stands, Stands-first, Stands-second, IsWide, wide32, wide64, number_at-Stands}
use Rattle.tab_file.proofs.Takes.{AreKnown}
use Rattle.tab_file.proofs.Counts.{known, neq-eqb}
use Rattle.tab_file.proofs.Whole.{promised_is, ends_whole}

-- ---- one item

-- an item whose number stands there, and is not wrong
item_again : (limit : ℕ) (bytes : List ℕ) (at n next : ℕ) (item : Item) → IsWide item.width limit → n < limit → Stands bytes at (to_le_bytes item.width n) next → item.wrong at n ≡ None → Pass bytes at (item ∷ []) (at + byte_len item.width)
item_again limit bytes at n next item wide lt s right =
    let end : next ≡ at + byte_len item.width = omega (arith, s.len, wide.len n) in
    let whole : at + byte_len item.width ≤ length bytes = omega (arith, end, s.whole) in
    let fine : wrong_at bytes at item ≡ None = rw (le-ltb (length bytes) (at + byte_len item.width) whole) (ap (item.wrong at) (number_at-Stands item.width limit wide bytes at n next lt s) ∙ right) in
    record { whole = whole; rest = λ more. ap (λ (w : Option TabErr). option_or w (first_failure bytes (at + byte_len item.width) more)) fine }

abbrev none : Option TabErr
none = None

passes : (b : Bool) (e : TabErr) → b ≡ true → cond b none (Some e) ≡ None
passes true e h = refl
passes false e h = absurd cc

exactly_again : (bytes : List ℕ) (at n : ℕ) (kind : TabKind) (back next : ℕ) → n < 2 ^ 32 → Stands bytes at (number n) next → Pass bytes at (exactly n kind back ∷ []) (at + 4)
exactly_again bytes at n kind back next lt s =
    item_again (2 ^ 32) bytes at n next (exactly n kind back) wide32 lt s (passes (eqb n n) (failure kind (at - back)) (eq-eqb n n refl))

-- ---- values and columns

length-values : (xs : List ℕ) → length (flat_map value xs) ≡ 8 * length xs
length-values [] = refl
length-values (x ∷ xs) = length-append (value x) (flat_map value xs) ∙ omega (arith, length-values xs)

length-columns : (rows : ℕ) (cs : List (List ℕ)) → All (λ c. length c ≡ rows) cs → length (flat_map (flat_map value) cs) ≡ 8 * (length cs * rows)
length-columns rows [] h = omega arith
length-columns rows (c ∷ cs) h =
    length-append (flat_map value c) (flat_map (flat_map value) cs)
    ∙ omega (arith, length-values c, length-columns rows cs (All-tail (λ (d : List ℕ). length d ≡ rows) c cs h), All-head (λ (d : List ℕ). length d ≡ rows) c cs h)

values_again : (bytes : List ℕ) (at : ℕ) (xs : List ℕ) (next : ℕ) → IsCanonical xs → Stands bytes at (flat_map value xs) next
    → Pass bytes at (replicate (length xs) value_item) (at + 8 * length xs) × (numbers_from w64 bytes at (length xs) ≡ xs)
values_again bytes at [] next canonical s =
    let e : at ≡ at + 8 * 0 = omega arith in
    (subst (λ (m : ℕ). Pass bytes at [] m) e (Pass-none bytes at (omega (arith, s.len, s.whole))), refl)
values_again bytes at (x ∷ xs) next canonical s =
    let below : x < p = All-head (λ v. v < p) x xs canonical in
    let bits : x < 2 ^ 64 = omega (arith, below) in
    let here = Stands-first bytes at next (value x) (flat_map value xs) s in
    let first = item_again (2 ^ 64) bytes at x (at + 8) value_item wide64 bits here (passes (ltb x p) (failure NotCanonical at) (lt-ltb x p below)) in
    let others = values_again bytes (at + 8) xs next (All-tail (λ v. v < p) x xs canonical) (Stands-second bytes at next (value x) (flat_map value xs) s) in
    let e : at + 8 + 8 * length xs ≡ at + 8 * suc (length xs) = omega arith in (
      subst (λ (m : ℕ). Pass bytes at (value_item ∷ replicate (length xs) value_item) m) e
          (Pass-then bytes at (at + 8) (at + 8 + 8 * length xs) (value_item ∷ []) (replicate (length xs) value_item) first others.0),
      ap (λ (ns : List ℕ). number_at w64 bytes at ∷ ns) others.1 ∙ ap (λ (v : ℕ). v ∷ xs) (number_at-Stands w64 (2 ^ 64) wide64 bytes at x (at + 8) bits here),
    )

columns_again : (bytes : List ℕ) (at rows : ℕ) (cs : List (List ℕ)) (next : ℕ) → All (λ c. length c ≡ rows) cs → AreCanonical cs → Stands bytes at (flat_map (flat_map value) cs) next
    → Pass bytes at (replicate (length cs * rows) value_item) (at + 8 * (length cs * rows)) × (columns_from bytes at (length cs) rows ≡ cs)
columns_again bytes at rows [] next heights canonical s =
    let z : 0 ≡ 0 * rows = omega arith in
    let e : at ≡ at + 8 * (0 * rows) = omega (arith, z) in
    (subst (λ (k : ℕ). Pass bytes at (replicate k value_item) (at + 8 * (0 * rows))) z (subst (λ (m : ℕ). Pass bytes at [] m) e (Pass-none bytes at (omega (arith, s.len, s.whole)))), refl)
columns_again bytes at rows (c ∷ cs) next heights canonical s =
    let len : length c ≡ rows = All-head (λ (d : List ℕ). length d ≡ rows) c cs heights in
    let here = Stands-first bytes at next (flat_map value c) (flat_map (flat_map value) cs) s in
    let first = values_again bytes at c (at + length (flat_map value c)) (All-head IsCanonical c cs canonical) here in
    let pass : Pass bytes at (replicate rows value_item) (at + 8 * rows) = subst (λ (k : ℕ). Pass bytes at (replicate k value_item) (at + 8 * k)) len first.0 in
    let column : numbers_from w64 bytes at rows ≡ c = subst (λ (k : ℕ). numbers_from w64 bytes at k ≡ c) len first.1 in
    let place : at + length (flat_map value c) ≡ at + 8 * rows = omega (arith, len, length-values c) in
    let rest : Stands bytes (at + 8 * rows) (flat_map (flat_map value) cs) next = subst (λ (m : ℕ). Stands bytes m (flat_map (flat_map value) cs) next) place (Stands-second bytes at next (flat_map value c) (flat_map (flat_map value) cs) s) in
    let others = columns_again bytes (at + 8 * rows) rows cs next (All-tail (λ (d : List ℕ). length d ≡ rows) c cs heights) (All-tail IsCanonical c cs canonical) rest in
    let n : rows + length cs * rows ≡ suc (length cs) * rows = omega arith in
    let e : at + 8 * rows + 8 * (length cs * rows) ≡ at + 8 * (suc (length cs) * rows) = omega arith in (
      subst (λ (m : ℕ). Pass bytes at (replicate (suc (length cs) * rows) value_item) m) e
          (subst (λ (k : ℕ). Pass bytes at (replicate k value_item) (at + 8 * rows + 8 * (length cs * rows))) n
          (Pass-more bytes at (at + 8 * rows) (at + 8 * rows + 8 * (length cs * rows)) rows (length cs * rows) value_item pass others.0)),
      ap (λ (ds : List (List ℕ)). numbers_from w64 bytes at rows ∷ ds) others.1 ∙ ap (λ (d : List ℕ). d ∷ cs) column,
    )

-- ---- instances

same_table : (bytes : List ℕ) (at : ℕ) (place : Place) (t : Table) → number_at w32 bytes at ≡ t.air → number_at w32 bytes (at + 4) ≡ t.instance → columns_from bytes (at + 16) place.form.columns place.form.rows ≡ t.columns → table_at bytes at place ≡ t
same_table bytes at place t a i c = rw (a, i, c) refl

length-instance : (place : Place) (t : Table) → Fits place t → length (instance_text place.form.rows t) ≡ instance_len place
length-instance place t fits =
    let r = place.form.rows in
    let cells = flat_map (flat_map value) t.columns in
    let count : length t.columns ≡ place.form.columns = fits.columns in
    let len : length (flat_map (flat_map value) t.columns) ≡ 8 * (place.form.columns * place.form.rows) = length-columns r t.columns fits.rows ∙ ap (λ (k : ℕ). 8 * (k * place.form.rows)) count in
    length-append (number t.air ++ number t.instance ++ number (length t.columns) ++ number r) cells ∙ omega (arith, len)

air_again : (bytes : List ℕ) (at airs a next : ℕ) → a < airs → a < 2 ^ 32 → Stands bytes at (number a) next → Pass bytes at (air_item airs a ∷ []) (at + 4)
air_again bytes at airs a next known lt s =
    let one : cond (ltb a airs) (cond (eqb a a) none (Some (failure BadOrder at))) (Some (failure BadAir at)) ≡ None = rw (lt-ltb a airs known, eq-eqb a a refl) refl in
    item_again (2 ^ 32) bytes at a next (air_item airs a) wide32 lt s one

instance_again : (bytes : List ℕ) (at airs : ℕ) (place : Place) (t : Table) (next : ℕ) → place.air < airs → Fits place t → Stands bytes at (instance_text place.form.rows t) next
    → Pass bytes at (instance_items airs place) (at + instance_len place) × (table_at bytes at place ≡ t)
instance_again bytes at airs place t next known fits s =
    let n = place.form.columns in
    let r = place.form.rows in
    let cells = flat_map (flat_map value) t.columns in
    let a = number t.air in
    let b = number t.instance in
    let c = number (length t.columns) in
    let d = number r in
    let sabcd = Stands-first bytes at next (a ++ b ++ c ++ d) cells s in
    let sabc = Stands-first bytes at (at + 16) (a ++ b ++ c) d sabcd in
    let sab = Stands-first bytes at (at + 12) (a ++ b) c sabc in
    let s0 = Stands-first bytes at (at + 8) a b sab in
    let s1 = Stands-second bytes at (at + 8) a b sab in
    let s2 = Stands-second bytes at (at + 12) (a ++ b) c sabc in
    let s3 = Stands-second bytes at (at + 16) (a ++ b ++ c) d sabcd in
    let s4 = Stands-second bytes at next (a ++ b ++ c ++ d) cells s in
    let air0 : Stands bytes at (number place.air) (at + 4) = subst (λ (k : ℕ). Stands bytes at (number k) (at + 4)) fits.air s0 in
    let instance1 : Stands bytes (at + 4) (number place.instance) (at + 8) = subst (λ (k : ℕ). Stands bytes (at + 4) (number k) (at + 8)) fits.instance s1 in
    let columns2 : Stands bytes (at + 8) (number n) (at + 12) = subst (λ (k : ℕ). Stands bytes (at + 8) (number k) (at + 12)) fits.columns s2 in
    let p0 = air_again bytes at airs place.air (at + 4) known fits.bits.air air0 in
    let p1 = exactly_again bytes (at + 4) place.instance BadOrder 4 (at + 8) fits.bits.instance instance1 in
    let p2 = exactly_again bytes (at + 8) n BadShape 0 (at + 12) fits.bits.columns columns2 in
    let p3 = exactly_again bytes (at + 12) r BadShape 0 (at + 16) fits.bits.rows s3 in
    let p4 = columns_again bytes (at + 16) r t.columns next fits.rows fits.canonical s4 in
    let count = fits.columns in
    let values : Pass bytes (at + 16) (replicate (n * r) value_item) (at + 16 + 8 * (n * r)) = subst (λ (k : ℕ). Pass bytes (at + 16) (replicate (k * r) value_item) (at + 16 + 8 * (k * r))) count p4.0 in
    let cols : columns_from bytes (at + 16) n r ≡ t.columns = subst (λ (k : ℕ). columns_from bytes (at + 16) k r ≡ t.columns) count p4.1 in
    let e : at + 16 + 8 * (n * r) ≡ at + instance_len place = omega arith in
    let pass = Pass-after_four bytes at (at + 16 + 8 * (n * r)) (air_item airs place.air) (exactly place.instance BadOrder 4) (exactly n BadShape 0) (exactly r BadShape 0) (replicate (n * r) value_item) p0 p1 p2 p3 values in
    let is-air : number_at w32 bytes at ≡ t.air = number_at-Stands w32 (2 ^ 32) wide32 bytes at place.air (at + 4) fits.bits.air air0 ∙ sym fits.air in
    let is-instance : number_at w32 bytes (at + 4) ≡ t.instance = number_at-Stands w32 (2 ^ 32) wide32 bytes (at + 4) place.instance (at + 8) fits.bits.instance instance1 ∙ sym fits.instance in
    (subst (λ (m : ℕ). Pass bytes at (instance_items airs place) m) e pass, same_table bytes at place t is-air is-instance cols)

tables_again : (bytes : List ℕ) (at airs : ℕ) (rows : ℕ → ℕ) (places : List Place) (ts : List Table) (next : ℕ) → AreKnown airs rows places → Fill places ts
    → Stands bytes at (flat_map (λ t. instance_text (rows t.air) t) ts) next
    → Pass bytes at (places_items airs places) (at + places_len places) × (tables_from bytes at places ≡ ts) × (next ≡ at + places_len places)
tables_again bytes at airs rows [] [] next known fill s =
    let e : at ≡ at + 0 = omega arith in
    (subst (λ (m : ℕ). Pass bytes at [] m) e (Pass-none bytes at (omega (arith, s.len, s.whole))), refl, omega (arith, s.len))
tables_again bytes at airs rows [] (t ∷ ts) next known fill s = absurd fill
tables_again bytes at airs rows (q ∷ qs) [] next known fill s = absurd fill
tables_again bytes at airs rows (q ∷ qs) (t ∷ ts) next known fill s =
    let later = flat_map (λ (u : Table). instance_text (rows u.air) u) ts in
    let its : rows t.air ≡ q.form.rows = ap rows fill.0.air ∙ known.0.height in
    let front = Stands-first bytes at next (instance_text (rows t.air) t) later s in
    let here = subst (λ (r : ℕ). Stands bytes at (instance_text r t) (at + length (instance_text (rows t.air) t))) its front in
    let first = instance_again bytes at airs q t (at + length (instance_text (rows t.air) t)) known.0.below fill.0 here in
    let len : at + length (instance_text (rows t.air) t) ≡ at + instance_len q = ap (λ (r : ℕ). at + length (instance_text r t)) its ∙ ap (λ (k : ℕ). at + k) (length-instance q t fill.0) in
    let rest : Stands bytes (at + instance_len q) later next = subst (λ (m : ℕ). Stands bytes m later next) len (Stands-second bytes at next (instance_text (rows t.air) t) later s) in
    let others = tables_again bytes (at + instance_len q) airs rows qs ts next known.1 fill.1 rest in
    let e : at + instance_len q + places_len qs ≡ at + (instance_len q + places_len qs) = omega arith in (
      subst (λ (m : ℕ). Pass bytes at (instance_items airs q ++ places_items airs qs) m) e
          (Pass-then bytes at (at + instance_len q) (at + instance_len q + places_len qs) (instance_items airs q) (places_items airs qs) first.0 others.0),
      ap (λ (us : List Table). table_at bytes at q ∷ us) others.1 ∙ ap (λ (u : Table). u ∷ ts) first.1,
      others.2 ∙ e,
    )

-- ---- the header

other_count : (main : Bool) (v most : ℕ) (few many : TabErr) → (main ≡ true → 0 < v) → v ≤ most → cond (main && eqb v 0) (Some few) (cond (leb v most) none (Some many)) ≡ None
other_count true v most few many h le =
    let above : 0 < v = h refl in
    let zero_count : eqb v 0 ≡ false = neq-eqb v 0 (λ e. omega (arith, e, above)) in
    rw (zero_count, le-leb v most le) refl
other_count false v most few many h le = passes (leb v most) many (le-leb v most le)

count_cases : (out main : Bool) (v most : ℕ) (one few many : TabErr) → (main ≡ true → 0 < v) → MatchBool out (v ≡ 1) (v ≤ most)
    → cond out (cond (eqb v 1) none (Some one)) (cond (main && eqb v 0) (Some few) (cond (leb v most) none (Some many))) ≡ None
count_cases true main v most one few many h is = passes (eqb v 1) one (eq-eqb v 1 is)
count_cases false main v most one few many h le = other_count main v most few many h le

count_again : (bytes : List ℕ) (at : ℕ) (machine : Bool) (a : ℕ) (form : AirShape) (v next : ℕ) → IsCount machine a form v → Stands bytes at (number v) next → Pass bytes at (count_item machine a form ∷ []) (at + 4)
count_again bytes at machine a form v next is s =
    item_again (2 ^ 32) bytes at v next (count_item machine a form) wide32 is.bits s
    (count_cases (is_out machine a) (is_main machine a) v form.most (failure NotOneOut at) (failure NoMain at) (failure TooMany at) is.main is.most)

counts_again : (bytes : List ℕ) (at : ℕ) (machine : Bool) (a : ℕ) (fs : List AirShape) (cs : List ℕ) (next : ℕ) → AreCounts machine a fs cs → Stands bytes at (flat_map number cs) next
    → Pass bytes at (count_items machine a fs) (at + 4 * length fs) × (numbers_from w32 bytes at (length fs) ≡ cs) × (next ≡ at + 4 * length fs)
counts_again bytes at machine a [] [] next counts s =
    let e : at ≡ at + 4 * 0 = omega arith in
    (subst (λ (m : ℕ). Pass bytes at [] m) e (Pass-none bytes at (omega (arith, s.len, s.whole))), refl, omega (arith, s.len))
counts_again bytes at machine a [] (c ∷ cs) next counts s = absurd counts
counts_again bytes at machine a (f ∷ fs) [] next counts s = absurd counts
counts_again bytes at machine a (f ∷ fs) (c ∷ cs) next counts s =
    let here = Stands-first bytes at next (number c) (flat_map number cs) s in
    let first = count_again bytes at machine a f c (at + 4) counts.0 here in
    let others = counts_again bytes (at + 4) machine (suc a) fs cs next counts.1 (Stands-second bytes at next (number c) (flat_map number cs) s) in
    let e : at + 4 + 4 * length fs ≡ at + 4 * suc (length fs) = omega arith in (
      subst (λ (m : ℕ). Pass bytes at (count_item machine a f ∷ count_items machine (suc a) fs) m) e
          (Pass-then bytes at (at + 4) (at + 4 + 4 * length fs) (count_item machine a f ∷ []) (count_items machine (suc a) fs) first others.0),
      ap (λ (ns : List ℕ). number_at w32 bytes at ∷ ns) others.1 ∙ ap (λ (v : ℕ). v ∷ cs) (number_at-Stands w32 (2 ^ 32) wide32 bytes at c (at + 4) counts.0.bits here),
      others.2 ∙ e,
    )

profile_again : (bytes : List ℕ) (profile : Profile) (next : ℕ) → Stands bytes 8 (number (profile_number profile)) next → Pass bytes 8 (profile_item ∷ []) 12 × (profile_of (number_at w32 bytes 8) ≡ profile)
profile_again bytes Small next s =
    (item_again (2 ^ 32) bytes 8 1 next profile_item wide32 (omega arith) s refl, ap profile_of (number_at-Stands w32 (2 ^ 32) wide32 bytes 8 1 next (omega arith) s))
profile_again bytes Wide next s =
    (item_again (2 ^ 32) bytes 8 2 next profile_item wide32 (omega arith) s refl, ap profile_of (number_at-Stands w32 (2 ^ 32) wide32 bytes 8 2 next (omega arith) s))

-- the version stands there and the profile is read
record IsFront (bytes : List ℕ) (at : ℕ) (items : List Item) (end : ℕ) (form : Form) (profile : Profile) : Type 0 where
  pub pass : Pass bytes at items end
  pub told : promised_profile bytes form ≡ profile

version_again : (bytes : List ℕ) (form : Form) (profile : Profile) → IsProfileOf form profile → Stands bytes 4 (version form profile) (version_end form) → IsFront bytes 4 (version_items form) (version_end form) form profile
version_again bytes Plain profile its s = record { pass = exactly_again bytes 4 1 BadVersion 0 8 (omega arith) s; told = sym its }
version_again bytes One profile its s = record { pass = exactly_again bytes 4 1 BadVersion 0 8 (omega arith) s; told = sym its }
version_again bytes Two profile its s =
    let p0 = exactly_again bytes 4 2 BadVersion 0 8 (omega arith) (Stands-first bytes 4 12 (number 2) (number (profile_number profile)) s) in
    let p1 = profile_again bytes profile 12 (Stands-second bytes 4 12 (number 2) (number (profile_number profile)) s) in
    record { pass = Pass-then bytes 4 8 12 (exactly 2 BadVersion 0 ∷ []) (profile_item ∷ []) p0 p1.0; told = p1.1 }

pub version_len : (form : Form) (profile : Profile) → 4 + length (version form profile) ≡ version_end form
version_len Plain profile = refl
version_len One profile = refl
version_len Two Small = refl
version_len Two Wide = refl

front_again : (bytes : List ℕ) (form : Form) (profile : Profile) (airs : ℕ) → IsProfileOf form profile → airs < 2 ^ 32 → Stands bytes 0 (codes "ZKWT" ++ version form profile ++ number airs) (front_end form)
    → IsFront bytes 0 (front_items form airs) (front_end form) form profile
front_again bytes form profile airs its bits s =
    let v = version form profile in
    let end : 0 + length (codes "ZKWT" ++ v) ≡ version_end form = omega (arith, length-append (codes "ZKWT") v, version_len form profile) in
    let two : Stands bytes 0 (codes "ZKWT" ++ v) (version_end form) = subst (λ (m : ℕ). Stands bytes 0 (codes "ZKWT" ++ v) m) end (Stands-first bytes 0 (front_end form) (codes "ZKWT" ++ v) (number airs) s) in
    let three : Stands bytes (version_end form) (number airs) (front_end form) = subst (λ (m : ℕ). Stands bytes m (number airs) (front_end form)) end (Stands-second bytes 0 (front_end form) (codes "ZKWT" ++ v) (number airs) s) in
    let p0 = exactly_again bytes 0 0x5457_4b5a BadMagic 0 4 (omega arith) (Stands-first bytes 0 (version_end form) (codes "ZKWT") v two) in
    let p1 = version_again bytes form profile its (Stands-second bytes 0 (version_end form) (codes "ZKWT") v two) in
    let p2 = exactly_again bytes (version_end form) airs BadAir 0 (front_end form) bits three in
    record {
      pass = Pass-then bytes 0 4 (front_end form) (exactly 0x5457_4b5a BadMagic 0 ∷ []) (version_items form ++ exactly airs BadAir 0 ∷ []) p0
          (Pass-then bytes 4 (version_end form) (front_end form) (version_items form) (exactly airs BadAir 0 ∷ []) p1.pass p2);
      told = p1.told;
    }

-- ---- from the numbers of instances on

-- no item fails, and the tables are the ones that are read
record IsBody (bytes : List ℕ) (start : ℕ) (machine : Bool) (cs : List ℕ) (tables : List Table) (fs : List AirShape) : Type 0 where
  pub counts : numbers_from w32 bytes start (length fs) ≡ cs
  pub fine : first_failure bytes start (body_items machine fs (numbers_from w32 bytes start (length fs))) ≡ None
  pub same : body_tables bytes start fs (numbers_from w32 bytes start (length fs)) ≡ tables

body_again : (bytes : List ℕ) (start : ℕ) (machine : Bool) (fs : List AirShape) (cs : List ℕ) (tables : List Table) (next : ℕ) → AreCounts machine 0 fs cs → Fill (places_from 0 fs cs) tables
    → Stands bytes start (flat_map number cs) next → Stands bytes next (instances_text fs tables) (length bytes) → IsBody bytes start machine cs tables fs
body_again bytes start machine fs cs tables next counts fill front rest =
    let counted = counts_again bytes start machine 0 fs cs next counts front in
    let at = start + 4 * length fs in
    let tail : Stands bytes (start + 4 * length fs) (instances_text fs tables) (length bytes) = subst (λ (m : ℕ). Stands bytes m (instances_text fs tables) (length bytes)) counted.2 rest in
    let read = tables_again bytes at (length fs) (rows_at fs) (places_from 0 fs cs) tables (length bytes) (known fs cs) fill tail in
    let numbers : numbers_from w32 bytes start (length fs) ≡ cs = counted.1 in
    let last = λ (ds : List ℕ). places_items (length fs) (places_from 0 fs ds) in
    let end = at + places_len (places_from 0 fs cs) in
    let at_last : first_failure bytes at (last cs) ≡ None =
    ap (first_failure bytes at) (sym (append-nil (last cs))) ∙ read.0.rest [] ∙ ends_whole bytes end (omega (arith, read.2)) in
    record {
      counts = numbers;
      fine = counted.0.rest (last (numbers_from w32 bytes start (length fs))) ∙ ap (λ (ds : List ℕ). first_failure bytes at (last ds)) numbers ∙ at_last;
      same = ap (λ (ds : List ℕ). tables_from bytes at (places_from 0 fs ds)) numbers ∙ read.1;
    }

-- ---- the file

stands_all : (bytes text : List ℕ) → bytes ≡ text → Stands bytes 0 text (length bytes)
stands_all bytes text e = record {
  len = ap length e ∙ omega arith;
  whole = omega arith;
  split = e ∙ sym (append-nil text) ∙ ap (λ (xs : List ℕ). text ++ xs) (sym (drop_all (length bytes) bytes (omega arith)));
}

-- no item of the file fails, and the witness is the one that it reads as
pub record IsRead (bytes : List ℕ) (shape : Shape) (witness : Witness) : Type 0 where
  pub fine : first_failure bytes 0 (items bytes shape) ≡ None
  pub same : promised bytes shape ≡ witness
  pub counts : counts_of shape witness ≡ promised_counts bytes shape

pub file_again : (bytes : List ℕ) (shape : Shape) (witness : Witness) → TabReads bytes shape witness → IsRead bytes shape witness
file_again bytes shape witness reads =
    let form = shape.form in
    let profile = witness.profile in
    let fs = airs_of shape witness in
    let airs = length shape.airs in
    let cs = counts_of shape witness in
    let v = version form profile in
    let front = codes "ZKWT" ++ v ++ number airs in
    let whole = header form profile airs cs in
    let instances = instances_text fs witness.tables in
    let all = stands_all bytes (whole ++ instances) reads.spelled in
    let head = Stands-first bytes 0 (length bytes) whole instances all in
    let end : 0 + length (codes "ZKWT" ++ v ++ number airs) ≡ front_end form =
    omega (arith, length-append (codes "ZKWT" ++ v) (number airs), length-append (codes "ZKWT") v, version_len form profile) in
    let s0 : Stands bytes 0 (codes "ZKWT" ++ v ++ number airs) (front_end form) = subst (λ (m : ℕ). Stands bytes 0 front m) end (Stands-first bytes 0 (0 + length whole) front (flat_map number cs) head) in
    let s1 : Stands bytes (front_end form) (flat_map number (counts_of shape witness)) (0 + length whole) = subst (λ (m : ℕ). Stands bytes m (flat_map number cs) (0 + length whole)) end (Stands-second bytes 0 (0 + length whole) front (flat_map number cs) head) in
    let first = front_again bytes form profile airs reads.shaped.profile reads.shaped.bits s0 in
    let body = body_again bytes (front_end form) (is_machine form) fs cs witness.tables (0 + length whole) reads.shaped.counted reads.shaped.filled s1 (Stands-second bytes 0 (length bytes) whole instances all) in
    let same : airs_of shape witness ≡ promised_airs bytes shape = ap (λ (p : Profile). in_profile p shape.airs) (sym first.told) in
    let here = subst (λ (gs : List AirShape). IsBody bytes (front_end form) (is_machine form) cs witness.tables gs) same body in
    record {
      fine = first.pass.rest (body_items (is_machine form) (promised_airs bytes shape) (promised_counts bytes shape)) ∙ here.fine;
      same = sym (promised_is bytes shape profile (front_end form) (promised_airs bytes shape) witness.tables (sym first.told) refl refl (sym here.same));
      counts = sym here.counts;
    }
