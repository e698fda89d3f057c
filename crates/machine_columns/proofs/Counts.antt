-- How many tables there are of each air, and their values.
use Rattle.std.proofs.Common.{ℕ, Bool, true, false, zero, suc, ◌≡◌, ◌<◌, ◌≤◌, ◌^◌, List, [], ◌∷◌, All, cond, Some, refl, arith}
use Rattle.std.specs.Prelude.{slice_index, slice_index_or}
use Rattle.std.specs.Option.{option_map_or}
use Rattle.std.specs.List.{find}
use Rattle.std.proofs.lemmas.List.Elements.{All-nil, All-cons}
use Rattle.gold.specs.Field.{p, AreCanonical, IsCanonical}
use Rattle.gold.specs.declared.instances.Table.{Table}
use Rattle.gold.specs.declared.instances.Witness.{Witness}
use Rattle.gold.specs.declared.shapes.Form.TheVariants.{Two}
use Rattle.gold.specs.declared.shapes.Profile.{Profile}
use Rattle.gold.specs.declared.shapes.Profile.TheVariants.{Small, Wide}
use Rattle.gold.specs.Shapes.{AreCounts, Fill, Place, counts_from, in_profile, places_from, airs_of, counts_of}
use Rattle.zk_layout.specs.Air.{machine_airs, machine_shape_of, most_per, shape_in}
use Rattle.zk_layout.specs.declared.air.Air.TheVariants as airs
use Rattle.wit_columns.specs.Values.{instances_of, is_instance, value_at, value_in}
use Rattle.machine_columns.specs.Accepted.{AreWellFormed}

-- the airs have no more instances than they may
pub record Counts (q : Profile) (tables : List Table) : Type 0 where
  pub some_main : 0 < instances_of tables 0
  pub main : instances_of tables 0 ≤ (shape_in q airs.Main).most
  pub mem : instances_of tables 1 ≤ (shape_in q airs.Mem).most
  pub binary : instances_of tables 2 ≤ (shape_in q airs.Binary).most
  pub shift : instances_of tables 3 ≤ (shape_in q airs.Shift).most
  pub arith_ : instances_of tables 4 ≤ (shape_in q airs.Arith).most
  pub align : instances_of tables 5 ≤ (shape_in q airs.Align).most
  pub out : instances_of tables 6 ≡ 1

counts_by : (q : Profile) (tables : List Table) → AreCounts true 0 (in_profile q machine_airs) (counts_from 0 7 tables) → Counts q tables
counts_by Small tables h = record {
  some_main = h.0.main refl;
  main = h.0.most;
  mem = h.1.0.most;
  binary = h.1.1.0.most;
  shift = h.1.1.1.0.most;
  arith_ = h.1.1.1.1.0.most;
  align = h.1.1.1.1.1.0.most;
  out = h.1.1.1.1.1.1.0.most;
}
counts_by Wide tables h = record {
  some_main = h.0.main refl;
  main = h.0.most;
  mem = h.1.0.most;
  binary = h.1.1.0.most;
  shift = h.1.1.1.0.most;
  arith_ = h.1.1.1.1.0.most;
  align = h.1.1.1.1.1.0.most;
  out = h.1.1.1.1.1.1.0.most;
}

pub counts : (w : Witness) → AreWellFormed w → Counts w.profile w.tables
counts w h = counts_by w.profile w.tables h.counted

-- the least bounds that both profiles meet
pub record Few (tables : List Table) : Type 0 where
  pub main : instances_of tables 0 ≤ 2 ^ 20
  pub mem : instances_of tables 1 ≤ 2 ^ 22
  pub binary : instances_of tables 2 ≤ 2 ^ 20
  pub shift : instances_of tables 3 ≤ 2 ^ 22
  pub arith_ : instances_of tables 4 ≤ 2 ^ 22
  pub align : instances_of tables 5 ≤ 2 ^ 21
  pub out : instances_of tables 6 ≡ 1

main_few : (q : Profile) (n : ℕ) → n ≤ (shape_in q airs.Main).most → n ≤ 2 ^ 20
unfolding most_per
main_few Small n h = h
main_few Wide n h = omega arith

few_by : (q : Profile) (tables : List Table) → Counts q tables → Few tables
unfolding most_per
few_by Small tables h = record { main = main_few Small _ h.main; mem = h.mem; binary = h.binary; shift = h.shift; arith_ = h.arith_; align = h.align; out = h.out }
few_by Wide tables h = record { main = main_few Wide _ h.main; mem = h.mem; binary = h.binary; shift = h.shift; arith_ = h.arith_; align = h.align; out = h.out }

pub few : (w : Witness) → AreWellFormed w → Few w.tables
few w h = few_by w.profile w.tables (counts w h)

-- ---- the values of the tables

filled_canonical : (ps : List Place) (ts : List Table) → Fill ps ts → All (λ t. AreCanonical t.columns) ts
filled_canonical [] [] h = All-nil (λ (t : Table). AreCanonical t.columns)
filled_canonical [] (t ∷ ts) h = absurd h
filled_canonical (q ∷ ps) [] h = absurd h
filled_canonical (q ∷ ps) (t ∷ ts) h = All-cons (λ (t : Table). AreCanonical t.columns) t ts h.0.canonical (filled_canonical ps ts h.1)

index_small : (xs : List ℕ) (r : ℕ) → IsCanonical xs → slice_index xs r < p
index_small [] r h = omega arith
index_small (x ∷ xs) zero h = h 0 0 (omega arith)
index_small (x ∷ xs) (suc r) h = index_small xs r (λ k d l. h (suc k) d (omega arith))

column_small : (cs : List (List ℕ)) (k r : ℕ) → AreCanonical cs → slice_index (slice_index_or cs k []) r < p
column_small [] k r h = omega arith
column_small (c ∷ cs) zero r h = index_small c r (h 0 [] (omega arith))
column_small (c ∷ cs) (suc k) r h = column_small cs k r (λ j d l. h (suc j) d (omega arith))

pub value_small : (ts : List Table) (s i k r : ℕ) → All (λ t. AreCanonical t.columns) ts → value_at ts s i k r < p
value_small [] s i k r h = omega arith
value_small (t ∷ ts) s i k r h = by (is_instance s i t) (value_small ts s i k r (λ j d l. h (suc j) d (omega arith)))
  where
    by : (b : Bool) → value_at ts s i k r < p → option_map_or (value_in k r) (cond b (Some t) (find (is_instance s i) ts)) 0 < p
    by true rest = column_small t.columns k r (h 0 t (omega arith))
    by false rest = rest

pub canonical : (w : Witness) → AreWellFormed w → All (λ t. AreCanonical t.columns) w.tables
canonical w h = filled_canonical (places_from 0 (airs_of (machine_shape_of Two) w) (counts_of (machine_shape_of Two) w)) w.tables h.filled
