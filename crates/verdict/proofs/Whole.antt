-- All tables, and none.
use Rattle.std.proofs.Common.{ℕ, Bool, true, false, zero, suc, ◌≡◌, ◌<◌, ◌≤◌, ◌+◌, ◌*◌, ◌%◌, ◌^◌, ◌⊎◌, List, [], ◌∷◌, ◌++◌, All, Option, Some, None, length, take, get_or, flat_map, map, refl, sym, ap, subst, ◌∙◌, ⊎_elim, arith, append-nil}
use Rattle.std.specs.Prelude.{slice_get, slice_index_or, MatchOption}
use Rattle.std.specs.List.{find, range_with_len}
use Rattle.std.specs.Option.{option_map_or}
use Rattle.std.specs.Int.{to_le_bytes, w64}
use Rattle.std.proofs.Math.Nat.{mul-le-mul_right}
use Rattle.std.proofs.lemmas.Bool.{cases_lt}
use Rattle.std.proofs.lemmas.Option.{none-some}
use Rattle.std.proofs.lemmas.List.FromFn.{length-map-range_with_len, get_or-map-range_with_len}
use Rattle.gold.specs.declared.instances.Table.{Table}
use Rattle.gold.specs.declared.instances.Witness.{Witness}
use Rattle.gold.specs.declared.shapes.Profile.{Profile}
use Rattle.gold.specs.declared.shapes.Profile.TheVariants.{Small, Wide}
use Rattle.gold.specs.Shapes.{Fill, Fits as FitsPlace, in_profile}
use Rattle.rv_model.specs.Image.{Img}
use Rattle.rv_model.specs.declared.answer.Public.{Public}
use Rattle.zk_layout.specs.Air.{air_number, columns_per, machine_airs, rows_per, shape_in}
use Rattle.zk_layout.specs.declared.air.Air.{Air}
use Rattle.zk_layout.specs.declared.air.Air.TheVariants as airs
use Rattle.zk_layout.specs.Namespaces.{namespace_at, namespace_number, namespace_of}
use Rattle.pil_ast.specs.Term.{Namespace, space_at}
use Rattle.pil_ast.specs.Value.{public_value}
use Rattle.fixed_cols.specs.declared.sizes.Sizes.{Sizes}
use Rattle.fixed_cols.specs.Constants.{Fixed, fixed_of, instances_in}
use Rattle.fixed_cols.specs.Constants as C
use Rattle.wit_columns.specs.Values.{instances_of, is_instance, value_at}
use Rattle.wit_columns.specs.Values as W
use Rattle.air_main.specs.Step.{joined}
use Rattle.machine_text.specs.Machine.{machine}
use Rattle.machine_columns.specs.Accepted.{AreWellFormed, public_of, published}
use Rattle.machine_columns.specs.Place.{air_in}
use Rattle.machine_columns.specs.Values.{constants_per, sizes_of, values_of}
use Rattle.main_run.specs.Headline.{PublicsAreOuts, told}
use Rattle.pil_checker.specs.declared.checker.Checker.{Checker}
use Rattle.pil_checker.specs.Standing.{AreAllAdded, added}
use Rattle.whole_columns.specs.Whole.{AreFew, values_of_held}
use Rattle.verdict.specs.Frames.{held_of, instances_at}
use Rattle.verdict.specs.Told.{low_at, told_by, told_bytes, told_number}
use Rattle.verdict.specs.Standing.{AreAll, AreAllowed, AreCounted, BeginsWith, ComesNext, air_at, count_in, places_of, witness_with}
use Rattle.verdict.proofs.Cases.{First, constant_space, count_is, few_rows, first_at}
use Rattle.verdict.proofs.Next.{Next, next}
use Rattle.verdict.proofs.Places.{At, fill_at, some_of, split_at}
use Rattle.verdict.proofs.Same.{TablesLaw, held_count}

-- ---- no table

abbrev IsLate : Img → Sizes → ℕ → Type 0
IsLate image sizes s = 6 ≤ s → count_in image sizes [] s (air_in (namespace_at s)) ≡ 0

late : (image : Img) (sizes : Sizes) → First (IsLate image sizes) 13
unfolding air_in
late image sizes = (
  (λ l. absurd (omega arith)),
  (
    (λ l. absurd (omega arith)),
    (
      (λ l. absurd (omega arith)),
      (
        (λ l. absurd (omega arith)),
        (
          (λ l. absurd (omega arith)),
          (
            (λ l. absurd (omega arith)),
            (
              (λ l. refl),
              ((λ l. refl), ((λ l. refl), ((λ l. refl), ((λ l. refl), ((λ l. refl), ((λ l. refl), tt)))))),
            ),
          ),
        ),
      ),
    ),
  ),
)

constant_count : (image : Img) (sizes : Sizes) (s : ℕ) (o : Option Air) → o ≡ None → C.instances_of image sizes (namespace_at s) ≡ count_in image sizes [] s o
constant_count image sizes s None e = refl
constant_count image sizes s (Some b) e = absurd (none-some b (sym e))

pub counted_none : (image : Img) (sizes : Sizes) (k : Checker) → ((s : ℕ) → s < 6 → added k s ≡ (values_of_held (held_of (fixed_of image sizes) sizes.profile)).instances s) → ((s : ℕ) → 6 ≤ s → added k s ≡ 0) → AreCounted image sizes [] k
counted_none image sizes k a b s l =
    ⊎_elim
    (λ m. a s m ∙ held_count (fixed_of image sizes) sizes.profile s m ∙ constant_count image sizes s (air_in (namespace_at s)) (constant_space sizes.profile s m).air)
    (λ m. b s m ∙ sym (first_at (IsLate image sizes) 13 (late image sizes) s l m))
    (cases_lt s 6)

past : {X : Type 0} (xs : List X) (k : ℕ) (d : X) → length xs ≤ k → get_or xs k d ≡ d
past [] k d h = refl
past (x ∷ xs) zero d h = absurd (omega arith)
past (x ∷ xs) (suc k) d h = past xs k d (omega arith)

few_by : (n rows : ℕ) → n ≤ 2 ^ 20 → rows ≤ 65536 → AreFew n rows
few_by n rows a b = let m = mul-le-mul_right rows a in record { instances = omega arith; in_all = omega arith }

pub held_few : (image : Img) (sizes : Sizes) → ((s : ℕ) → s < 6 → C.instances_of image sizes (namespace_at s) ≤ 2 ^ 20)
    → (s : ℕ) → s < 13 → AreFew (length (slice_index_or (held_of (fixed_of image sizes) sizes.profile).spaces s [])) (space_at (machine sizes.profile) s).rows
held_few image sizes law s l =
    ⊎_elim
    (λ m. few_by _ _ (subst (λ n. n ≤ 2 ^ 20) (sym (held_count (fixed_of image sizes) sizes.profile s m)) (law s m)) (few_rows sizes.profile s l))
    (λ m. few_by _ _ (none s (past (held_of (fixed_of image sizes) sizes.profile).spaces s [] (long m))) (few_rows sizes.profile s l))
    (cases_lt s 6)
  where
    long : 6 ≤ s → length (held_of (fixed_of image sizes) sizes.profile).spaces ≤ s
    long m = subst (λ n. n ≤ s) (sym (length-map-range_with_len (instances_at (fixed_of image sizes) sizes.profile) 0 6)) m

    none : (s : ℕ) → slice_index_or (held_of (fixed_of image sizes) sizes.profile).spaces s [] ≡ [] → length (slice_index_or (held_of (fixed_of image sizes) sizes.profile).spaces s []) ≤ 2 ^ 20
    none s e = subst (λ (x : List (List (List ℕ))). length x ≤ 2 ^ 20) (sym e) (omega arith)

-- ---- all tables

pub all_added : (image : Img) (sizes : Sizes) (tables : List Table) (k : Checker) → AreAll sizes tables → AreCounted image sizes tables k → AreAllAdded (machine sizes.profile) (values_of image (witness_with sizes tables)) k
all_added image sizes tables k all h s l =
    h s l ∙ subst (λ (z : Sizes). count_in image z tables s (air_in (namespace_at s)) ≡ C.instances_of image (sizes_of (witness_with sizes tables)) (namespace_at s)) all.sized (count_is image (witness_with sizes tables) s l)

pub begins_all : (sizes : Sizes) (tables : List Table) → AreAll sizes tables → BeginsWith sizes tables (witness_with sizes tables)
begins_all sizes tables all = record { formed = all.formed; sized = all.sized; rest = []; begin = sym (append-nil tables) }

-- ---- a table of well-formed ones

pub record Placing (w : Witness) (n : ℕ) (t : Table) : Type 0 where
  pub comes : ComesNext (sizes_of w) (take n w.tables) t
  pub before : Fill (take (length (take n w.tables)) (places_of (sizes_of w))) (take n w.tables)

pub placing : (w : Witness) (n : ℕ) (t : Table) → AreWellFormed w → slice_get w.tables n ≡ Some t → Placing w n t
placing w n t h is =
    let r = fill_at (places_of (sizes_of w)) w.tables n t h.filled is in
    record { comes = record { place = r.place; is_place = r.is_place; fits = r.fits }; before = r.before }

-- ---- what is published

record OutIs (w : Witness) : Type 0 where
  at : ℕ
  table : Table
  is : slice_get w.tables at ≡ Some table
  air : table.air ≡ 6
  found : find (is_instance 6 0) w.tables ≡ Some table

out_is : (w : Witness) → AreWellFormed w → instances_of w.tables 6 ≡ 1 → OutIs w
out_is w h one =
    let r = some_of w.tables 6 (omega arith) in
    let pl = placing w r.at r.table h r.is in
    let n : Next (sizes_of w) (take r.at w.tables) r.table = next (sizes_of w) (take r.at w.tables) r.table h.counted pl.before pl.comes in
    let parts = split_at w.tables r.at r.table r.is in
    let few : r.table.instance < instances_of w.tables 6 = subst (λ m. r.table.instance < get_or (sizes_of w).counts m 0) r.air n.few in
    let zero : r.table.instance ≡ 0 = omega arith in
    record {
      at = r.at;
      table = r.table;
      is = r.is;
      air = r.air;
      found =
          subst (λ m. find (is_instance 6 m) w.tables ≡ Some r.table) zero
          (subst (λ m. find (is_instance m r.table.instance) w.tables ≡ Some r.table) r.air
          (subst (λ ts. find (is_instance r.table.air r.table.instance) ts ≡ Some r.table) (sym parts.1) (n.first parts.0)));
    }

abbrev OutsLaw : Type 0
OutsLaw = (image : Img) (tables : Witness) → AreWellFormed tables → PublicsAreOuts (machine tables.profile) (values_of image tables)

abbrev public_with : ℕ → List ℕ → Public
public_with a x = record { exit = a; output = x }

same_public : (a b : ℕ) (x y : List ℕ) → a ≡ b → x ≡ y → public_with a x ≡ public_with b y
same_public a b x y e h = subst (λ z. public_with a x ≡ public_with z y) e (ap (public_with a) h)

pieces : (f g : ℕ → List ℕ) (a n : ℕ) → ((k : ℕ) → k < a + n → f k ≡ g k) → flat_map f (range_with_len a n) ≡ flat_map g (range_with_len a n)
pieces f g a zero h = refl
pieces f g a (suc n) h = both (f a) (g a) _ _ (h a (omega arith)) (pieces f g (a + 1) n (λ k l. h k (omega arith)))
  where
    both : (x y xs ys : List ℕ) → x ≡ y → xs ≡ ys → x ++ xs ≡ y ++ ys
    both x y xs ys e h = cc

joined_same : (a b x y : ℕ) → a ≡ x → b ≡ y → joined (a % 2 ^ 32) (b % 2 ^ 32) ≡ joined (x % 2 ^ 32) (y % 2 ^ 32)
joined_same a b x y e h = ap (λ z. joined (z % 2 ^ 32) (b % 2 ^ 32)) e ∙ ap (λ z. joined (x % 2 ^ 32) (z % 2 ^ 32)) h

module _ (law : TablesLaw) (outs : OutsLaw) (image : Img) (w : Witness) (h : AreWellFormed w) (one : instances_of w.tables 6 ≡ 1) where
  cell : (t : Table) → find (is_instance 6 0) w.tables ≡ Some t → (k r : ℕ) → k < 2 → r < 64 → (values_of image w).at 8 0 (2 + k) r ≡ W.value_in k r t
  unfolding air_number columns_per rows_per namespace_number namespace_of constants_per
  cell t is k r l m = law image w airs.Out 0 k r (omega arith) l (high w.profile r m) ∙ ap (λ o. option_map_or (W.value_in k r) o 0) is
    where
      high : (q : Profile) (r : ℕ) → r < 64 → r < (shape_in q airs.Out).rows
      high Small r m = m
      high Wide r m = m

  number : (t : Table) → find (is_instance 6 0) w.tables ≡ Some t → (k : ℕ) → k < 33 → joined (published image w (2 * k) % 2 ^ 32) (published image w (2 * k + 1) % 2 ^ 32) ≡ told_number t k
  number t is k l =
      let o = outs image w h k l in
      joined_same _ _ _ _ (o.0 ∙ cell t is 0 k (omega arith) (omega arith)) (o.1 ∙ cell t is 1 k (omega arith) (omega arith))

  pub published_is : (public : Public) → ((k : ℕ) (t : Table) → slice_get w.tables k ≡ Some t → t.air ≡ air_number airs.Out → public ≡ told_by t) → public ≡ public_of image w
  unfolding air_number told_bytes
  published_is public told_is =
      let o = out_is w h one in
      told_is o.at o.table o.is o.air
      ∙ sym (same_public _ _ _ _ (number o.table o.found 0 (omega arith)) (pieces _ _ 0 32 (λ k l. ap (to_le_bytes w64) (number o.table o.found (k + 1) (omega arith)))))

pub one_out : (image : Img) (w : Witness) → (values_of image w).instances 8 ≡ 1 → instances_of w.tables 6 ≡ 1
unfolding air_number
one_out image w h = h
