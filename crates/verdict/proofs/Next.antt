-- The table that comes next.
use Rattle.std.proofs.Common.{ℕ, Bool, true, false, zero, suc, cond, eqb, ◌≡◌, ◌≢◌, ◌<◌, ◌≤◌, ◌+◌, ◌-◌, ◌*◌, ◌^◌, ◌⊎◌, inl, inr, List, [], ◌∷◌, ◌++◌, All, Option, Some, None, length, take, get_or, refl, sym, ap, subst, ◌∙◌, ⊎_elim, arith, append_assoc, length-append}
use Rattle.std.specs.Prelude.{slice_get, slice_set}
use Rattle.std.specs.List.{find}
use Rattle.std.proofs.Math.Nat.{mul-le-mul_right}
use Rattle.std.proofs.lemmas.Bool.{eq-eqb, eqb-true, false≢true}
use Rattle.std.proofs.lemmas.Option.{none-some, slice_get-get_or}
use Rattle.std.proofs.lemmas.List.Elements.{All-append}
use Rattle.gold.specs.Field.{AreCanonical, IsCanonical}
use Rattle.gold.specs.declared.instances.Table.{Table}
use Rattle.gold.specs.declared.instances.Witness.{Witness}
use Rattle.gold.specs.declared.shapes.AirShape.{AirShape}
use Rattle.gold.specs.declared.shapes.Profile.{Profile}
use Rattle.gold.specs.declared.shapes.Profile.TheVariants.{Small, Wide}
use Rattle.gold.specs.Shapes.{Fill, in_profile}
use Rattle.rv_model.specs.Image.{Img}
use Rattle.rv_model.specs.declared.answer.Public.{Public}
use Rattle.zk_layout.specs.Air.{air_number, columns_per, machine_airs, rows_in}
use Rattle.zk_layout.specs.declared.air.Air.{Air}
use Rattle.zk_layout.specs.declared.air.Air.TheVariants as airs
use Rattle.zk_layout.specs.Namespaces.{namespace_at, namespace_number, namespace_of}
use Rattle.pil_ast.specs.Term.{Namespace, space_at, width}
use Rattle.pil_ast.specs.Columns.{Columns}
use Rattle.fixed_cols.specs.declared.sizes.Sizes.{Sizes}
use Rattle.fixed_cols.specs.Constants.{Fixed, fixed_of}
use Rattle.wit_columns.specs.Values.{instances_of, is_instance}
use Rattle.machine_text.specs.Machine.{machine}
use Rattle.machine_columns.specs.Place.{air_in}
use Rattle.machine_columns.specs.Values.{constants_per, sizes_of, values_of}
use Rattle.instance_pass.specs.Passes.{IsSameInstance}
use Rattle.pil_checker.specs.declared.checker.Checker.{Checker}
use Rattle.pil_checker.specs.Standing.{IsBuilt, StandsFor, added}
use Rattle.whole_columns.specs.Whole.{AreFew, Framed, IsFramed, values_of_frame}
use Rattle.verdict.specs.Frames.{constants_at, framed_of, rows_at}
use Rattle.verdict.specs.Told.{told_by}
use Rattle.verdict.specs.Standing.{AreAllowed, AreCounted, BeginsWith, ComesNext, air_at, count_in, places_of}
use Rattle.verdict.proofs.Added.{added_here, added_other}
use Rattle.verdict.proofs.Cases.{few_most, few_rows, numbered, of_air, own_number, shape_columns}
use Rattle.verdict.proofs.Places.{count_cons, count_other, count_same, counted_some, few_allowed, one_allowed, placed}
use Rattle.verdict.proofs.Same.{TablesLaw, constants_high, constants_long, frame_same}

pub record Next (sizes : Sizes) (tables : List Table) (t : Table) : Type 0 where
  pub low : t.air < 7
  pub number : air_number (air_at t.air) ≡ t.air
  pub columns : length t.columns ≡ columns_per (air_at t.air)
  pub rows : All (λ c. length c ≡ rows_in sizes.profile (air_at t.air)) t.columns
  pub canonical : AreCanonical t.columns
  pub few : t.instance < get_or sizes.counts t.air 0
  pub fits : t.instance + 1 ≤ 2 ^ 22
  pub count : instances_of tables t.air ≡ t.instance
  pub first : (rest : List Table) → find (is_instance t.air t.instance) (tables ++ t ∷ rest) ≡ Some t

all_few : (q : Profile) → All (λ (f : AirShape). f.most ≤ 2 ^ 22) (in_profile q machine_airs)
all_few q k d l = few_most q k (get_or (in_profile q machine_airs) k d) (slice_get-get_or (in_profile q machine_airs) k d l)

pub next : (sizes : Sizes) (tables : List Table) (t : Table) → AreAllowed sizes → Fill (take (length tables) (places_of sizes)) tables → ComesNext sizes tables t → Next sizes tables t
next sizes tables t allowed fill h =
    let q = sizes.profile in
    let p = h.place in
    let pl = placed 0 (in_profile q machine_airs) sizes.counts (length tables) tables p h.is_place fill in
    let at : p.air - 0 ≡ t.air = (let e = h.fits.air in omega arith) in
    let num = numbered q t.air p.form (subst (λ n. slice_get (in_profile q machine_airs) n ≡ Some p.form) at pl.known.form) in
    let low : t.instance < get_or sizes.counts t.air 0 = subst (λ n. t.instance < get_or sizes.counts n 0) at (subst (λ n. n < get_or sizes.counts (p.air - 0) 0) (sym h.fits.instance) pl.known.few) in
    let few : get_or sizes.counts t.air 0 ≤ 2 ^ 22 = few_allowed 0 (in_profile q machine_airs) sizes.counts t.air (all_few q) allowed in
    record {
      low = num.low;
      number = num.number;
      columns = h.fits.columns ∙ ap (λ (f : AirShape). f.columns) num.shape ∙ shape_columns q (air_at t.air);
      rows = subst (λ n. All (λ c. length c ≡ n) t.columns) (ap (λ (f : AirShape). f.rows) num.shape) h.fits.rows;
      canonical = h.fits.canonical;
      few = low;
      fits = omega arith;
      count = ap (instances_of tables) h.fits.air ∙ pl.count ∙ sym h.fits.instance;
      first = λ rest.
          subst (λ n. find (is_instance t.air n) (tables ++ t ∷ rest) ≡ Some t) (sym h.fits.instance)
          (subst (λ n. find (is_instance n p.instance) (tables ++ t ∷ rest) ≡ Some t) (sym h.fits.air) (pl.first t rest h.fits.air h.fits.instance));
    }

-- ---- how many tables there are

append_same : (ts : List Table) (t : Table) (rest : List Table) (s : ℕ) → t.air ≡ s → instances_of ts s < instances_of (ts ++ t ∷ rest) s
append_same [] t rest s e = (let n = count_same t rest s e in omega arith)
append_same (u ∷ ts) t rest s e = (let l = append_same ts t rest s e in let a = count_cons u ts s in let b = count_cons u (ts ++ t ∷ rest) s in omega arith)

append_one : (ts : List Table) (t : Table) (s : ℕ) → t.air ≡ s → instances_of (ts ++ t ∷ []) s ≡ instances_of ts s + 1
append_one [] t s e = (let n = count_same t [] s e in omega arith)
append_one (u ∷ ts) t s e = (let l = append_one ts t s e in let a = count_cons u ts s in let b = count_cons u (ts ++ t ∷ []) s in omega arith)

append_other : (ts : List Table) (t : Table) (s : ℕ) → t.air ≢ s → instances_of (ts ++ t ∷ []) s ≡ instances_of ts s
append_other [] t s e = count_other t [] s e
append_other (u ∷ ts) t s e = (let l = append_other ts t s e in let a = count_cons u ts s in let b = count_cons u (ts ++ t ∷ []) s in omega arith)

module _ (image : Img) (sizes : Sizes) (tables : List Table) (t : Table) (n : Next sizes tables t) where
  abbrev a : Air
  a = air_at t.air

  abbrev pub s : ℕ
  s = namespace_number (namespace_of (air_at t.air))

  abbrev q : Profile
  q = sizes.profile

  -- ---- the frame

  pub framed : (f : Fixed) → AreCanonical (constants_at f s t.instance (rows_at q s)) → IsFramed (framed_of f q s t)
  framed f canonical =
      let o = of_air q a in
      record {
        space = o.below;
        instance = (let l = n.fits in omega arith);
        columns = record {
          wide = length-append (constants_at f s t.instance (rows_at q s)) t.columns ∙ sums _ _ _ _ (constants_long f s t.instance (rows_at q s) ∙ ap constants_per o.at) n.columns ∙ sym o.wide;
          high = All-append (λ c. length c ≡ rows_at q s) (constants_at f s t.instance (rows_at q s)) t.columns (constants_high f s t.instance (rows_at q s)) (subst (λ m. All (λ c. length c ≡ m) t.columns) (sym o.high) n.rows);
          canonical = All-append IsCanonical (constants_at f s t.instance (rows_at q s)) t.columns canonical n.canonical;
        };
      }
    where
      sums : (x y z w : ℕ) → x ≡ y → z ≡ w → x + z ≡ y + w
      sums x y z w e h = omega arith

  pub few : AreFew (t.instance + 1) (space_at (machine q) s).rows
  few =
      let m = mul-le-mul_right (space_at (machine q) s).rows n.fits in
      let r = few_rows q s (of_air q a).below in
      record { instances = n.fits; in_all = omega arith }

  -- ---- the instance

  pub instance_same : TablesLaw → (w : Witness) → BeginsWith sizes (tables ++ t ∷ []) w → IsSameInstance (values_of_frame (framed_of (fixed_of image sizes) q s t)) (values_of image w) s t.instance
  instance_same law w h =
      let all : w.tables ≡ tables ++ t ∷ h.rest = h.begin ∙ append_assoc tables (t ∷ []) h.rest in
      let there : t.instance < instances_of w.tables (air_number a) =
      subst (λ x. t.instance < instances_of w.tables x) (sym n.number) (subst (λ ts. t.instance < instances_of ts t.air) (sym all) (subst (λ m. m < instances_of (tables ++ t ∷ h.rest) t.air) n.count (append_same tables t h.rest t.air refl))) in
      let found : find (is_instance (air_number a) t.instance) w.tables ≡ Some t =
      subst (λ x. find (is_instance x t.instance) w.tables ≡ Some t) (sym n.number) (subst (λ ts. find (is_instance t.air t.instance) ts ≡ Some t) (sym all) (n.first h.rest)) in
      subst (λ (z : Sizes). IsSameInstance (values_of_frame (framed_of (fixed_of image z) z.profile s t)) (values_of image w) s t.instance) h.sized (frame_same law image w a t there found)

  pub begins_before : (w : Witness) → BeginsWith sizes (tables ++ t ∷ []) w → BeginsWith sizes tables w
  begins_before w h = record { formed = h.formed; sized = h.sized; rest = t ∷ h.rest; begin = h.begin ∙ append_assoc tables (t ∷ []) h.rest }

  -- ---- the counts

  not_own : (u : ℕ) → u < 13 → u ≢ s → (b : Air) → air_in (namespace_at u) ≡ Some b → t.air ≢ air_number b
  not_own u l ne b e f = ne (own_number u l b e ∙ ap (λ x. namespace_number (namespace_of x)) (sym (of_air q b).number ∙ ap air_at (sym f)))

  count_alike : (u : ℕ) → u < 13 → u ≢ s → (o : Option Air) → air_in (namespace_at u) ≡ o → count_in image sizes tables u o ≡ count_in image sizes (tables ++ t ∷ []) u o
  count_alike u l ne None e = refl
  count_alike u l ne (Some b) e = sym (append_other tables t (air_number b) (not_own u l ne b e))

  count_here : (o : Option Air) → o ≡ Some a → t.instance + 1 ≡ count_in image sizes (tables ++ t ∷ []) s o
  count_here None e = absurd (none-some a e)
  count_here (Some b) e =
      let is : t.air ≡ air_number b = sym n.number ∙ ap air_number (sym (same b e)) in
      ap (λ x. x + 1) (sym n.count ∙ ap (instances_of tables) is) ∙ sym (append_one tables t (air_number b) is)
    where
      same : (b : Air) → Some b ≡ Some a → b ≡ a
      same b e = cc

  pub counted_more : (ns : List Namespace) (old new : Checker) → IsBuilt ns old → length ns ≡ 13 → new.counts.items ≡ slice_set old.counts.items s (t.instance + 1) → AreCounted image sizes tables old → AreCounted image sizes (tables ++ t ∷ []) new
  counted_more ns old new built long e h u l = by (eqb u s) refl
    where
      by : (b : Bool) → eqb u s ≡ b → added new u ≡ count_in image sizes (tables ++ t ∷ []) u (air_in (namespace_at u))
      by true f =
          subst (λ v. added new v ≡ count_in image sizes (tables ++ t ∷ []) v (air_in (namespace_at v))) (sym (eqb-true u s f))
          (added_here ns s t.instance old new built (subst (λ m. s < m) (sym long) (of_air q a).below) e ∙ count_here (air_in (namespace_at s)) (of_air q a).air)
      by false f =
          let ne : u ≢ s = λ g. differ u s f g in
          added_other s t.instance u old new ne e ∙ h u l ∙ count_alike u l ne (air_in (namespace_at u)) refl
        where
          differ : (x y : ℕ) → eqb x y ≡ false → x ≡ y → ⊥
          differ x y e f = false≢true (sym e ∙ eq-eqb x y f)

  -- ---- what Out tells

  last : (ts : List Table) (k : ℕ) (x : Table) → slice_get (ts ++ t ∷ []) k ≡ Some x → (slice_get ts k ≡ Some x) ⊎ (t ≡ x)
  last [] zero x e = inr cc
  last [] (suc k) x e = absurd (none-some x e)
  last (u ∷ ts) zero x e = inl e
  last (u ∷ ts) (suc k) x e = last ts k x e

  abbrev AreTold : Public → List Table → Type 0
  AreTold public ts = (k : ℕ) (x : Table) → slice_get ts k ≡ Some x → x.air ≡ air_number airs.Out → public ≡ told_by x

  pub told_else : (public : Public) → t.air ≢ air_number airs.Out → AreTold public tables → AreTold public (tables ++ t ∷ [])
  told_else public ne h k x is e = ⊎_elim (λ f. h k x f e) (λ f. absurd (ne (ap (λ (y : Table). y.air) f ∙ e))) (last tables k x is)

  pub told_out : (public : Public) → AreAllowed sizes → t.air ≡ air_number airs.Out → public ≡ told_by t → AreTold public (tables ++ t ∷ [])
  unfolding air_number
  told_out public allowed out is k x at e = ⊎_elim (λ f. absurd (none f)) (λ f. is ∙ ap told_by f) (last tables k x at)
    where
      none : slice_get tables k ≡ Some x → ⊥
      none f =
          let some = counted_some tables k x 6 f e in
          let one : get_or sizes.counts 6 0 ≡ 1 = one_allowed 0 (in_profile q machine_airs) sizes.counts 6 (omega arith) (seven q) allowed in
          let low : t.instance < get_or sizes.counts 6 0 = subst (λ m. t.instance < get_or sizes.counts m 0) out n.few in
          let many : instances_of tables 6 ≡ t.instance = ap (instances_of tables) (sym out) ∙ n.count in
          omega arith
        where
          seven : (q : Profile) → 6 < length (in_profile q machine_airs)
          seven Small = omega arith
          seven Wide = omega arith
