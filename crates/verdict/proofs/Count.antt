-- How many rows of Main are selected, where the first n of all are.
use Rattle.std.proofs.Common.{ℕ, Bool, true, false, zero, suc, not, eqb, cond, min, ◌≡◌, ◌≢◌, ◌<◌, ◌≤◌, ◌+◌, ◌-◌, ◌*◌, List, [], ◌∷◌, ◌++◌, All, length, map, refl, sym, subst, ◌∙◌, ⊎_elim, arith}
use Rattle.std.specs.Prelude.{slice_index, slice_index_or, count_by, ◌==◌}
use Rattle.std.specs.List.{sum_by}
use Rattle.std.proofs.lemmas.Bool.{cases_lt, eq-eqb, ne_eqb}
use Rattle.std.proofs.lemmas.List.Sums.{sum_by-cons}
use Rattle.gold.specs.declared.instances.Table.{Table}
use Rattle.gold.specs.declared.instances.Witness.{Witness}
use Rattle.gold.specs.declared.shapes.AirShape.{AirShape}
use Rattle.gold.specs.declared.shapes.Profile.{Profile}
use Rattle.gold.specs.declared.shapes.Profile.TheVariants.{Small, Wide}
use Rattle.gold.specs.Shapes.{Fill, Place, counts_from, in_profile, instances_from, places_from}
use Rattle.zk_layout.specs.Air.{air_number, air_shape, columns_per, machine_airs, rows_in, shape_in}
use Rattle.zk_layout.specs.declared.air.Air.TheVariants as airs
use Rattle.wit_columns.specs.Values.{instances_of, is_instance, value_at}
use Rattle.machine_columns.specs.Accepted.{AreWellFormed}
use Rattle.verdict.specs.Steps.{selected_in, steps_of}

-- the value of row number j tells whether it is among the first n
pub record Chosen (n j v : ℕ) : Type 0 where
  pub on : j < n → v ≢ 0
  pub off : n ≤ j → v ≡ 0

abbrev nonzero : ℕ → Bool
nonzero v = not (v == 0)

moved : (n j k v : ℕ) → j ≡ k → Chosen n j v → Chosen n k v
moved n j k v e h = subst (λ i. Chosen n i v) e h

-- what a row counts
abbrev counted : ℕ → ℕ
counted v = cond (not (eqb v 0)) 1 0

counts_on : (v : ℕ) → v ≢ 0 → counted v ≡ 1
counts_on v h = rw (ne_eqb v 0 h) refl

counts_off : (v : ℕ) → v ≡ 0 → counted v ≡ 0
counts_off v h = rw (eq-eqb v 0 h) refl

one_more_on : (c x rest long n b : ℕ) → c ≡ x + rest → x ≡ 1 → rest ≡ min long (n - (b + 1)) → b < n → c ≡ min (suc long) (n - b)
one_more_on c x rest long n b e f g h = omega arith

one_more_off : (c x rest long n b : ℕ) → c ≡ x + rest → x ≡ 0 → rest ≡ min long (n - (b + 1)) → n ≤ b → c ≡ min (suc long) (n - b)
one_more_off c x rest long n b e f g h = omega arith

-- in a column of which row number 0 has number b
column_counted : (xs : List ℕ) (b n : ℕ) → ((r : ℕ) → r < length xs → Chosen n (b + r) (slice_index xs r)) → count_by nonzero xs ≡ min (length xs) (n - b)
column_counted [] b n h = omega arith
column_counted (x ∷ xs) b n h =
    let first : Chosen n b x = moved n (b + 0) b x (omega arith) (h 0 (omega arith)) in
    let rest : count_by nonzero xs ≡ min (length xs) (n - (b + 1)) = column_counted xs (b + 1) n (λ r l. moved n (b + suc r) ((b + 1) + r) (slice_index xs r) (omega arith) (h (suc r) (omega arith))) in
    let all = sum_by-cons (λ v. cond (nonzero v) 1 0) x xs in
    ⊎_elim
    (λ l. one_more_on _ (cond (nonzero x) 1 0) (count_by nonzero xs) (length xs) n b all (counts_on x (first.on l)) rest l)
    (λ l. one_more_off _ (cond (nonzero x) 1 0) (count_by nonzero xs) (length xs) n b all (counts_off x (first.off l)) rest l)
    (cases_lt b n)

-- ---- tables

neq-eqb : (a b : ℕ) → a ≢ b → eqb a b ≡ false
neq-eqb a b h = ne_eqb a b h

itself : (t : Table) (i : ℕ) → t.air ≡ 0 → t.instance ≡ i → is_instance 0 i t ≡ true
itself t i air instance = rw (eq-eqb t.air 0 air, eq-eqb t.instance i instance) refl

other : (t : Table) (i k : ℕ) → t.air ≡ 0 → t.instance ≡ k → k ≢ i → is_instance 0 i t ≡ false
other t i k air instance ne = rw (eq-eqb t.air 0 air, neq-eqb t.instance i (λ e. ne (sym instance ∙ e))) refl

value_here : (t : Table) (ts : List Table) (i r : ℕ) → t.air ≡ 0 → t.instance ≡ i → value_at (t ∷ ts) 0 i 0 r ≡ slice_index (slice_index_or t.columns 0 []) r
value_here t ts i r air instance = rw (itself t i air instance) refl

value_later : (t : Table) (ts : List Table) (i k r : ℕ) → t.air ≡ 0 → t.instance ≡ k → k ≢ i → value_at (t ∷ ts) 0 i 0 r ≡ value_at ts 0 i 0 r
value_later t ts i k r air instance ne = rw (other t i k air instance ne) refl

selected_main : (t : Table) → t.air ≡ 0 → selected_in t ≡ count_by nonzero (slice_index_or t.columns 0 [])
unfolding air_number
selected_main t air = rw (eq-eqb t.air 0 air) refl

selected_other : (t : Table) → t.air ≢ 0 → selected_in t ≡ 0
unfolding air_number
selected_other t air = rw (neq-eqb t.air 0 air) refl

one_table : (x y h m n b : ℕ) → x ≡ min h (n - b) → y ≡ min (m * h) (n - (b + h)) → x + y ≡ min (suc m * h) (n - b)
one_table x y h m n b e f = let g : suc m * h ≡ h + m * h = omega arith in omega arith

no_table : (x h n b : ℕ) → x ≡ 0 → x ≡ min (0 * h) (n - b)
no_table x h n b e = omega arith

next_row : (b i h r : ℕ) → b + (suc i * h + r) ≡ (b + h) + (i * h + r)
next_row b i h r = omega arith

first_row : (b h r : ℕ) → b + (0 * h + r) ≡ b + r
first_row b h r = omega arith

next_instance : (k i : ℕ) → k + suc i ≡ suc k + i
next_instance k i = omega arith

apart : (k i : ℕ) → k ≢ suc k + i
apart k i e = omega arith

-- the tables of Main come first, from instance k on, of which row number 0 has number b; the others don't count
module _ (n h : ℕ) (f : AirShape) (high : f.rows ≡ h) (wide : 0 < f.columns) (ps : List Place) (none : (us : List Table) → Fill ps us → sum_by selected_in us ≡ 0) where
  abbrev AreChosen : ℕ → ℕ → ℕ → List Table → Type 0
  AreChosen k m b ts = (i r : ℕ) → i < m → r < h → Chosen n (b + (i * h + r)) (value_at ts 0 (k + i) 0 r)

  first_column : (t : Table) → length t.columns ≡ f.columns → All (λ c. length c ≡ f.rows) t.columns → length (slice_index_or t.columns 0 []) ≡ h
  first_column t e l = l 0 [] (omega arith) ∙ high

  table_counted : (k m b : ℕ) (t : Table) (ts : List Table) → t.air ≡ 0 → t.instance ≡ k → length (slice_index_or t.columns 0 []) ≡ h → AreChosen k (suc m) b (t ∷ ts) → selected_in t ≡ min h (n - b)
  table_counted k m b t ts air instance long c =
      selected_main t air ∙ subst (λ z. count_by nonzero (slice_index_or t.columns 0 []) ≡ min z (n - b)) long (column_counted (slice_index_or t.columns 0 []) b n (λ r l. at r (subst (λ z. r < z) long l)))
    where
      same : k + 0 ≡ k
      same = omega arith

      some : 0 < suc m
      some = omega arith

      at : (r : ℕ) → r < h → Chosen n (b + r) (slice_index (slice_index_or t.columns 0 []) r)
      at r l = subst (λ v. Chosen n (b + r) v) (value_here t ts k r air instance) (subst (λ j. Chosen n (b + r) (value_at (t ∷ ts) 0 j 0 r)) same (moved n _ (b + r) _ (first_row b h r) (c 0 r some l)))

  later_chosen : (k m b : ℕ) (t : Table) (ts : List Table) → t.air ≡ 0 → t.instance ≡ k → AreChosen k (suc m) b (t ∷ ts) → AreChosen (suc k) m (b + h) ts
  later_chosen k m b t ts air instance c i r l q =
      subst (λ v. Chosen n ((b + h) + (i * h + r)) v) (value_later t ts (suc k + i) k r air instance (apart k i))
      (subst (λ j. Chosen n ((b + h) + (i * h + r)) (value_at (t ∷ ts) 0 j 0 r)) (next_instance k i) (moved n _ _ _ (next_row b i h r) (c (suc i) r (omega arith) q)))

  pub mains_counted : (k m b : ℕ) (ts : List Table) → Fill (instances_from 0 f k m ++ ps) ts → AreChosen k m b ts → sum_by selected_in ts ≡ min (m * h) (n - b)
  mains_counted k zero b ts fill c = no_table _ h n b (none ts fill)
  mains_counted k (suc m) b [] fill c = absurd fill
  mains_counted k (suc m) b (t ∷ ts) fill c =
      sum_by-cons selected_in t ts
      ∙ one_table (selected_in t) (sum_by selected_in ts) h m n b (table_counted k m b t ts fill.0.air fill.0.instance (first_column t fill.0.columns fill.0.rows) c)
      (mains_counted (suc k) m (b + h) ts fill.1 (later_chosen k m b t ts fill.0.air fill.0.instance c))

-- tables of later airs don't count
skip : (a : ℕ) (f : AirShape) (k c : ℕ) (ps : List Place) (us : List Table) → 0 < a → Fill (instances_from a f k c ++ ps) us → ((vs : List Table) → Fill ps vs → sum_by selected_in vs ≡ 0) → sum_by selected_in us ≡ 0
skip a f k zero ps us h fill rest = rest us fill
skip a f k (suc c) ps [] h fill rest = absurd fill
skip a f k (suc c) ps (u ∷ us) h fill rest =
    let is : u.air ≡ a = fill.0.air in
    let one : selected_in u ≡ 0 = selected_other u (λ e. omega arith) in
    let all = skip a f (suc k) c ps us h fill.1 rest in
    sum_by-cons selected_in u us ∙ (rw (one, all) refl)

pub none_later : (a : ℕ) (fs : List AirShape) (cs : List ℕ) (us : List Table) → 0 < a → Fill (places_from a fs cs) us → sum_by selected_in us ≡ 0
none_later a [] cs [] h fill = refl
none_later a [] cs (u ∷ us) h fill = absurd fill
none_later a (f ∷ fs) [] [] h fill = refl
none_later a (f ∷ fs) [] (u ∷ us) h fill = absurd fill
none_later a (f ∷ fs) (c ∷ cs) us h fill = skip a f 0 c (places_from (suc a) fs cs) us h fill (λ vs q. none_later (suc a) fs cs vs (omega arith) q)

-- ---- well-formed tables

-- the first n rows of Main's instances, in order, are the selected ones
abbrev pub AreFirst : ℕ → ℕ → List Table → Type 0
AreFirst h n tables = (i r : ℕ) → i < instances_of tables 0 → r < h → Chosen n (i * h + r) (value_at tables 0 i 0 r)

some_columns : (n : ℕ) → n ≡ 37 → 0 < n
some_columns n e = omega arith

main_columns : columns_per airs.Main ≡ 37
unfolding columns_per
main_columns = refl

in_all : (x h m n : ℕ) → x ≡ min (m * h) (n - 0) → n ≤ m * h → x ≡ n
in_all x h m n e l = omega arith

from_zero : (tables : List Table) (h n : ℕ) → AreFirst h n tables → (i r : ℕ) → i < instances_of tables 0 → r < h → Chosen n (0 + (i * h + r)) (value_at tables 0 (0 + i) 0 r)
from_zero tables h n c i r l q = subst (λ j. Chosen n (0 + (i * h + r)) (value_at tables 0 j 0 r)) (none i) (moved n (i * h + r) (0 + (i * h + r)) _ (omega arith) (c i r l q))
  where
    none : (i : ℕ) → i ≡ 0 + i
    none i = omega arith

-- the airs after Main
abbrev others : List AirShape
others = map air_shape (airs.Mem ∷ airs.Binary ∷ airs.Shift ∷ airs.Arith ∷ airs.Align ∷ airs.Out ∷ [])

places_counted : (f : AirShape) (fs : List AirShape) (c : ℕ) (cs : List ℕ) (tables : List Table) (n : ℕ) → c ≡ instances_of tables 0 → f.columns ≡ 37 → Fill (instances_from 0 f 0 c ++ places_from 1 fs cs) tables → AreFirst f.rows n tables
    → n ≤ instances_of tables 0 * f.rows → sum_by selected_in tables ≡ n
places_counted f fs c cs tables n e wide fill firsts l =
    in_all _ f.rows c n
    (mains_counted n f.rows f refl (some_columns f.columns wide) (places_from 1 fs cs) (λ us q. none_later 1 fs cs us (omega arith) q) 0 c 0 tables fill (λ i r h q. from_zero tables f.rows n firsts i r (subst (λ m. i < m) e h) q))
    (subst (λ m. n ≤ m * f.rows) (sym e) l)

counted_by : (q : Profile) (tables : List Table) (n : ℕ) → Fill (places_from 0 (in_profile q machine_airs) (counts_from 0 7 tables)) tables → AreFirst (rows_in q airs.Main) n tables
    → n ≤ instances_of tables 0 * rows_in q airs.Main → sum_by selected_in tables ≡ n
counted_by Small tables n fill c l = places_counted (shape_in Small airs.Main) others (instances_of tables 0) (counts_from 1 6 tables) tables n refl main_columns fill c l
counted_by Wide tables n fill c l = places_counted (shape_in Wide airs.Main) others (instances_of tables 0) (counts_from 1 6 tables) tables n refl main_columns fill c l

pub steps_counted : (w : Witness) (n : ℕ) → AreWellFormed w → AreFirst (rows_in w.profile airs.Main) n w.tables → n ≤ instances_of w.tables 0 * rows_in w.profile airs.Main → steps_of w ≡ n
steps_counted w n h c l = counted_by w.profile w.tables n h.filled c l
