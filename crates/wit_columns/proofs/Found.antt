-- Where the tables of an air's instances stand.
use Rattle.std.proofs.Common.{◌≡◌, ℕ, zero, suc, ◌+◌, ◌^◌, ◌<◌, ◌≤◌, Bool, true, false, eqb, List, [], ◌∷◌, ◌++◌, All, length, drop, get_or, refl, sym, ap, ◌∙◌, subst, arith}
use Rattle.std.specs.Prelude.{◌==◌, ◌&&◌, Some, slice_get}
use Rattle.std.specs.List.{find, prefix_len}
use Rattle.std.proofs.lemmas.Bool.{eq-eqb, eqb-true}
use Rattle.std.proofs.lemmas.Option.{get_or_from_slice_get, slice_get_within}
use Rattle.gold.specs.declared.instances.Table.{Table}
use Rattle.gold.specs.declared.instances.Witness.{Witness}
use Rattle.gold.specs.declared.shapes.AirShape.{AirShape}
use Rattle.gold.specs.declared.shapes.Profile.{Profile}
use Rattle.gold.specs.declared.shapes.Profile.TheVariants.{Small, Wide}
use Rattle.gold.specs.declared.shapes.Shape.{Shape}
use Rattle.gold.specs.Shapes.{Place, Fill, AreCounts, HaveShape, is_machine, in_profile, airs_of, instances_from, places_from, counts_from, counts_of}
use Rattle.wit_columns.specs.Values.{instances_of, width_of, rows_of, is_instance}
use Rattle.wit_columns.specs.Index.{Shaped, IsIndexed, starts_from}

-- the table at the place j is the first that is the instance i of the air s, and has so many columns and rows
pub record Stands (tables : List Table) (j s i wide high : ℕ) : Type 0 where
  pub table : Table
  pub got : slice_get tables j ≡ Some table
  pub found : find (is_instance s i) tables ≡ Some table
  pub columns : length table.columns ≡ wide
  pub rows : All (λ c. length c ≡ high) table.columns

-- ---- what a table is, and what it isn't

neq-eqb : (a b : ℕ) → (a ≡ b → ⊥) → eqb a b ≡ false
neq-eqb a b ne = elim (eqb a b) as (λ v. eqb a b ≡ v → v ≡ false) [ true ↦ λ e. absurd (ne (eqb-true a b e)) | false ↦ λ e. refl ] refl

and-false : (b : Bool) → b && false ≡ false
and-false true = refl
and-false false = refl

itself : (t : Table) (s i : ℕ) → t.air ≡ s → t.instance ≡ i → is_instance s i t ≡ true
itself t s i air instance = rw (eq-eqb t.air s air, eq-eqb t.instance i instance) refl

other_air : (t : Table) (s i a : ℕ) → t.air ≡ a → (a ≡ s → ⊥) → is_instance s i t ≡ false
other_air t s i a air ne = rw (neq-eqb t.air s (λ e. ne (sym air ∙ e))) refl

other_instance : (t : Table) (s i k : ℕ) → t.instance ≡ k → (k ≡ i → ⊥) → is_instance s i t ≡ false
other_instance t s i k instance ne = rw (neq-eqb t.instance i (λ e. ne (sym instance ∙ e))) (and-false (eqb t.air s))

-- ---- one more table in front

Stands-later : (t : Table) (ts : List Table) (j s i wide high : ℕ) → is_instance s i t ≡ false → Stands ts j s i wide high → Stands (t ∷ ts) (suc j) s i wide high
Stands-later t ts j s i wide high differs h = record {
  table = h.table;
  got = h.got;
  found = rw differs h.found;
  columns = h.columns;
  rows = h.rows;
}

-- an instance of the air whose instances come first
in_instances : (a : ℕ) (f : AirShape) (k n : ℕ) (ps : List Place) (ts : List Table) (i m : ℕ) → m ≡ k + i → i < n
    → Fill (instances_from a f k n ++ ps) ts → Stands ts i a m f.columns f.rows
in_instances a f k zero ps ts i m is lt h = absurd (omega (arith, lt))
in_instances a f k (suc n) ps [] i m is lt h = absurd h
in_instances a f k (suc n) ps (t ∷ ts) zero m is lt h =
    let e : k ≡ m = omega (arith, is) in
    record {
      table = t;
      got = refl;
      found = rw (itself t a m h.0.air (h.0.instance ∙ e)) refl;
      columns = h.0.columns;
      rows = h.0.rows;
    }
in_instances a f k (suc n) ps (t ∷ ts) (suc i) m is lt h =
    Stands-later t ts i a m f.columns f.rows (other_instance t a m k h.0.instance (λ e. omega (arith, e, is)))
    (in_instances a f (suc k) n ps ts i m (omega (arith, is)) (omega (arith, lt)) h.1)

-- ---- past the instances of an air

pub past_instances : (a : ℕ) (f : AirShape) (k n : ℕ) (ps : List Place) (ts : List Table) → Fill (instances_from a f k n ++ ps) ts → Fill ps (drop n ts)
past_instances a f k zero ps ts h = h
past_instances a f k (suc n) ps [] h = absurd h
past_instances a f k (suc n) ps (t ∷ ts) h = past_instances a f (suc k) n ps ts h.1

Stands-past : (a : ℕ) (f : AirShape) (k n : ℕ) (ps : List Place) (ts : List Table) (j s i wide high : ℕ) → (a ≡ s → ⊥)
    → Fill (instances_from a f k n ++ ps) ts → Stands (drop n ts) j s i wide high → Stands ts (n + j) s i wide high
Stands-past a f k zero ps ts j s i wide high ne h stands =
    let e : j ≡ 0 + j = omega arith in
    subst (λ (m : ℕ). Stands ts m s i wide high) e stands
Stands-past a f k (suc n) ps [] j s i wide high ne h stands = absurd h
Stands-past a f k (suc n) ps (t ∷ ts) j s i wide high ne h stands =
    let e : suc (n + j) ≡ suc n + j = omega arith in
    subst (λ (m : ℕ). Stands (t ∷ ts) m s i wide high) e
    (Stands-later t ts (n + j) s i wide high (other_air t s i a h.0.air ne) (Stands-past a f (suc k) n ps ts j s i wide high ne h.1 stands))

-- how many tables the first s airs have
abbrev pub before : List ℕ → ℕ → ℕ
before cs zero = 0
before [] (suc s) = 0
before (c ∷ cs) (suc s) = c + before cs s

placed : (fs : List AirShape) (cs : List ℕ) (a : ℕ) (ts : List Table) (s i b : ℕ) → b ≡ a + s → s < length fs → i < get_or cs s 0
    → Fill (places_from a fs cs) ts → Stands ts (before cs s + i) b i (width_of fs s) (rows_of fs s)
placed [] cs a ts s i b is lt within h = absurd (omega (arith, lt))
placed (f ∷ fs) [] a ts s i b is lt within h = absurd (omega (arith, within))
placed (f ∷ fs) (c ∷ cs) a ts zero i b is lt within h =
    let e : a ≡ b = omega (arith, is) in
    let z : i ≡ 0 + i = omega arith in
    let here : Stands ts i a i f.columns f.rows = in_instances a f 0 c (places_from (suc a) fs cs) ts i i z within h in
    subst (λ (m : ℕ). Stands ts (0 + i) m i f.columns f.rows) e (subst (λ (m : ℕ). Stands ts m a i f.columns f.rows) z here)
placed (f ∷ fs) (c ∷ cs) a ts (suc s) i b is lt within h =
    let rest = past_instances a f 0 c (places_from (suc a) fs cs) ts h in
    let later = placed fs cs (suc a) (drop c ts) s i b (omega (arith, is)) (omega (arith, lt)) within rest in
    let e : c + (before cs s + i) ≡ c + before cs s + i = omega arith in
    subst (λ (m : ℕ). Stands ts m b i (width_of fs s) (rows_of fs s)) e
    (Stands-past a f 0 c (places_from (suc a) fs cs) ts (before cs s + i) b i (width_of fs s) (rows_of fs s) (λ same. omega (arith, same, is)) h later)

-- ---- the places at which the airs begin

starts_at : (n : ℕ) (cs : List ℕ) (s : ℕ) → s ≤ length cs → get_or (starts_from n cs) s 0 ≡ n + before cs s
starts_at n [] zero le = omega arith
starts_at n [] (suc s) le = absurd (omega (arith, le))
starts_at n (c ∷ cs) zero le = omega arith
starts_at n (c ∷ cs) (suc s) le = omega (arith, starts_at (n + c) cs s (omega (arith, le)))

length-starts_from : (n : ℕ) (cs : List ℕ) → length (starts_from n cs) ≡ suc (length cs)
length-starts_from n [] = refl
length-starts_from n (c ∷ cs) = ap suc (length-starts_from (n + c) cs)

before-more : (cs : List ℕ) (s : ℕ) → before cs (suc s) ≡ before cs s + get_or cs s 0
before-more [] zero = refl
before-more [] (suc s) = refl
before-more (c ∷ cs) zero = omega arith
before-more (c ∷ cs) (suc s) = omega (arith, before-more cs s)

-- ---- the airs of a profile

length_in : (profile : Profile) (airs : List AirShape) → length (in_profile profile airs) ≡ length airs
length_in Small airs = refl
length_in Wide [] = refl
length_in Wide (f ∷ fs) = refl

-- ---- the counts

pub length-counts_from : (a n : ℕ) (ts : List Table) → length (counts_from a n ts) ≡ n
length-counts_from a zero ts = refl
length-counts_from a (suc n) ts = ap suc (length-counts_from (suc a) n ts)

counts_at : (a n : ℕ) (ts : List Table) (s b : ℕ) → b ≡ a + s → s < n → get_or (counts_from a n ts) s 0 ≡ instances_of ts b
counts_at a zero ts s b is lt = absurd (omega (arith, lt))
counts_at a (suc n) ts zero b is lt =
    let e : a ≡ b = omega (arith, is) in
    ap (instances_of ts) e
counts_at a (suc n) ts (suc s) b is lt = counts_at (suc a) n ts s b (omega (arith, is)) (omega (arith, lt))

count_bits : (machine : Bool) (fs : List AirShape) (cs : List ℕ) (a s : ℕ) → s < length fs → AreCounts machine a fs cs → get_or cs s 0 < 2 ^ 32
count_bits machine [] cs a s lt h = absurd (omega (arith, lt))
count_bits machine (f ∷ fs) [] a s lt h = absurd h
count_bits machine (f ∷ fs) (c ∷ cs) a zero lt h = h.0.bits
count_bits machine (f ∷ fs) (c ∷ cs) a (suc s) lt h = count_bits machine fs cs (suc a) s (omega (arith, lt)) h.1

-- ---- what the index tells

-- between the places of the air s and of the next one stand as many tables as it has instances
pub record Counted (tables : List Table) (starts : List ℕ) (s : ℕ) : Type 0 where
  pub inside : s + 1 < length starts
  pub count : get_or starts (s + 1) 0 ≡ get_or starts s 0 + instances_of tables s
  pub bits : instances_of tables s < 2 ^ 32

-- in each profile there are as many airs
pub length-airs_of : (shape : Shape) (witness : Witness) → length (airs_of shape witness) ≡ length shape.airs
length-airs_of shape witness = length_in witness.profile shape.airs

counted_of : (shape : Shape) (witness : Witness) (s : ℕ) → HaveShape shape witness → s < length shape.airs → Counted witness.tables (starts_from 0 (counts_of shape witness)) s
counted_of shape witness s h lt =
    let tables = witness.tables in
    let cs = counts_of shape witness in
    let len : length (counts_of shape witness) ≡ length shape.airs = length-counts_from 0 (length shape.airs) tables in
    let z : s ≡ 0 + s = omega arith in
    let next : suc s ≡ s + 1 = omega arith in
    let own : get_or (counts_of shape witness) s 0 ≡ instances_of witness.tables s = counts_at 0 (length shape.airs) tables s s z lt in
    let here : get_or (starts_from 0 (counts_of shape witness)) s 0 ≡ 0 + before (counts_of shape witness) s = starts_at 0 cs s (omega (arith, len, lt)) in
    let there : get_or (starts_from 0 (counts_of shape witness)) (suc s) 0 ≡ 0 + before (counts_of shape witness) (suc s) = starts_at 0 cs (suc s) (omega (arith, len, lt)) in
    let low : get_or (counts_of shape witness) s 0 < 2 ^ 32 = count_bits (is_machine shape.form) (airs_of shape witness) cs 0 s (omega (arith, lt, length-airs_of shape witness)) h.counted in
    let whole : length (starts_from 0 (counts_of shape witness)) ≡ suc (length (counts_of shape witness)) = length-starts_from 0 cs in
    let one : get_or (starts_from 0 (counts_of shape witness)) (suc s) 0 ≡ get_or (starts_from 0 (counts_of shape witness)) s 0 + instances_of witness.tables s
    = omega (arith, here, there, own, before-more cs s) in
    record {
      inside = omega (arith, whole, len, lt);
      count = subst (λ (m : ℕ). get_or (starts_from 0 cs) m 0 ≡ get_or (starts_from 0 cs) s 0 + instances_of tables s) next one;
      bits = subst (λ (n : ℕ). n < 2 ^ 32) own low;
    }

pub counted : (shape : Shape) (witness : Witness) (starts : List ℕ) (s : ℕ) → IsIndexed shape witness starts → s < length shape.airs → Counted witness.tables starts s
counted shape witness starts s h lt = subst (λ (ns : List ℕ). Counted witness.tables ns s) (sym h.begin) (counted_of shape witness s h.shaped lt)

-- the table of an instance of the air s stands so far behind the place of the air
pub stands : (shape : Shape) (witness : Witness) (starts : List ℕ) (s i : ℕ) → IsIndexed shape witness starts → s < length shape.airs → i < instances_of witness.tables s
    → Stands witness.tables (get_or starts s 0 + i) s i (width_of (airs_of shape witness) s) (rows_of (airs_of shape witness) s)
stands shape witness starts s i h lt within =
    let tables = witness.tables in
    let fs = airs_of shape witness in
    let cs = counts_of shape witness in
    let len : length (counts_of shape witness) ≡ length shape.airs = length-counts_from 0 (length shape.airs) tables in
    let z : s ≡ 0 + s = omega arith in
    let own : get_or (counts_of shape witness) s 0 ≡ instances_of witness.tables s = counts_at 0 (length shape.airs) tables s s z lt in
    let here : get_or (starts_from 0 (counts_of shape witness)) s 0 ≡ 0 + before (counts_of shape witness) s = starts_at 0 cs s (omega (arith, len, lt)) in
    let at : before (counts_of shape witness) s + i ≡ get_or (starts_from 0 (counts_of shape witness)) s 0 + i = omega (arith, here) in
    let inside : s < length (airs_of shape witness) = omega (arith, lt, length-airs_of shape witness) in
    let found = placed fs cs 0 tables s i s z inside (subst (λ (n : ℕ). i < n) (sym own) within) h.shaped.filled in
    subst (λ (ns : List ℕ). Stands tables (get_or ns s 0 + i) s i (width_of fs s) (rows_of fs s)) (sym h.begin)
    (subst (λ (m : ℕ). Stands tables m s i (width_of fs s) (rows_of fs s)) at found)

-- ---- the tables of one air after the other

prefix_instances : (a : ℕ) (f : AirShape) (k n : ℕ) (ps : List Place) (ts : List Table) → Fill (instances_from a f k n ++ ps) ts
    → prefix_len (λ t. t.air == a) ts ≡ n + prefix_len (λ t. t.air == a) (drop n ts)
prefix_instances a f k zero ps ts h = omega arith
prefix_instances a f k (suc n) ps [] h = absurd h
prefix_instances a f k (suc n) ps (t ∷ ts) h =
    let more : 1 + prefix_len (λ (u : Table). u.air == a) ts ≡ suc n + prefix_len (λ (u : Table). u.air == a) (drop n ts) = omega (arith, prefix_instances a f (suc k) n ps ts h.1) in
    rw (eq-eqb t.air a h.0.air) more

-- the first table is of an air from b on
first_air : (b : ℕ) (fs : List AirShape) (cs : List ℕ) (t : Table) (ts : List Table) → Fill (places_from b fs cs) (t ∷ ts) → b ≤ t.air
first_air b [] cs t ts h = absurd h
first_air b (f ∷ fs) [] t ts h = absurd h
first_air b (f ∷ fs) (zero ∷ cs) t ts h = omega (arith, first_air (suc b) fs cs t ts h)
first_air b (f ∷ fs) (suc c ∷ cs) t ts h = omega (arith, h.0.air)

prefix_none : (a : ℕ) (fs : List AirShape) (cs : List ℕ) (ts : List Table) → Fill (places_from (suc a) fs cs) ts → prefix_len (λ t. t.air == a) ts ≡ 0
prefix_none a fs cs [] h = refl
prefix_none a fs cs (t ∷ ts) h = rw (neq-eqb t.air a (λ e. omega (arith, e, first_air (suc a) fs cs t ts h))) refl

pub prefix_air : (a : ℕ) (f : AirShape) (c : ℕ) (fs : List AirShape) (cs : List ℕ) (ts : List Table) → Fill (instances_from a f 0 c ++ places_from (suc a) fs cs) ts
    → prefix_len (λ t. t.air == a) ts ≡ c
prefix_air a f c fs cs ts h =
    omega (arith, prefix_instances a f 0 c (places_from (suc a) fs cs) ts h, prefix_none a fs cs (drop c ts) (past_instances a f 0 c (places_from (suc a) fs cs) ts h))

-- ---- the same of what a caller sees

pub counted_seen : (shape : Shape) (witness : Witness) (seen : Shaped) (kept starts : List ℕ) (s : ℕ) → record { shape = shape; witness = witness } ≡ seen
    → starts ≡ kept → IsIndexed shape witness kept → s < length seen.shape.airs → Counted seen.witness.tables starts s
counted_seen shape witness seen kept starts s view read h =
    let same = subst (λ (ns : List ℕ). IsIndexed shape witness ns) (sym read) h in
    subst (λ (v : Shaped). s < length v.shape.airs → Counted v.witness.tables starts s) view (counted shape witness starts s same)

-- the table at the place j is the one that is found as the instance i of the air s, and is of the right size
pub record Chosen (tables : List Table) (seen : Shaped) (j s i : ℕ) : Type 0 where
  pub inside : j < length tables
  pub found : (d : Table) → find (is_instance s i) seen.witness.tables ≡ Some (get_or tables j d)
  pub columns : (d : Table) → length (get_or tables j d).columns ≡ width_of (airs_of seen.shape seen.witness) s
  pub rows : (d : Table) → All (λ c. length c ≡ rows_of (airs_of seen.shape seen.witness) s) (get_or tables j d).columns

chosen : (shape : Shape) (witness : Witness) (j s i : ℕ) → Stands witness.tables j s i (width_of (airs_of shape witness) s) (rows_of (airs_of shape witness) s)
    → Chosen witness.tables (record { shape = shape; witness = witness }) j s i
chosen shape witness j s i h =
    let tables = witness.tables in
    let fs = airs_of shape witness in
    let is : (d : Table) → h.table ≡ get_or witness.tables j d = λ d. sym (get_or_from_slice_get tables j h.table d h.got) in
    record {
      inside = slice_get_within tables j h.table h.got;
      found = λ d. h.found ∙ ap (λ (t : Table). Some t) (is d);
      columns = λ d. subst (λ (t : Table). length t.columns ≡ width_of fs s) (is d) h.columns;
      rows = λ d. subst (λ (t : Table). All (λ c. length c ≡ rows_of fs s) t.columns) (is d) h.rows;
    }

pub chosen_seen : (shape : Shape) (witness : Witness) (seen : Shaped) (kept starts : List ℕ) (s i : ℕ) → record { shape = shape; witness = witness } ≡ seen
    → starts ≡ kept → IsIndexed shape witness kept → s < length seen.shape.airs → i < instances_of seen.witness.tables s
    → Chosen witness.tables seen (get_or starts s 0 + i) s i
chosen_seen shape witness seen kept starts s i view read h =
    let same = subst (λ (ns : List ℕ). IsIndexed shape witness ns) (sym read) h in
    subst (λ (v : Shaped). s < length v.shape.airs → i < instances_of v.witness.tables s → Chosen witness.tables v (get_or starts s 0 + i) s i)
    view (λ lt within. chosen shape witness (get_or starts s 0 + i) s i (stands shape witness starts s i same lt within))
