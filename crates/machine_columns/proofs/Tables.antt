-- Behind the constants stand the tables' columns.
use Rattle.std.proofs.Common.{ℕ, ◌≡◌, ◌<◌, ◌≤◌, ◌+◌, ◌-◌, Some, refl, sym, ap, subst, ◌∙◌, arith}
use Rattle.std.specs.Prelude.{slice_get}
use Rattle.std.specs.Option.{option_map_or}
use Rattle.gold.specs.declared.instances.Witness.{Witness}
use Rattle.gold.specs.declared.shapes.Profile.{Profile}
use Rattle.gold.specs.declared.shapes.Profile.TheVariants.{Small, Wide}
use Rattle.gold.specs.Shapes.{in_profile}
use Rattle.rv_model.specs.Image.{Img}
use Rattle.zk_layout.specs.Air.{air_number, columns_per, machine_airs, rows_in, shape_in}
use Rattle.zk_layout.specs.Namespaces.{namespace_at, namespace_number, namespace_of}
use Rattle.zk_layout.specs.declared.air.Air.{Air}
use Rattle.zk_layout.specs.declared.air.Air.TheVariants as airs
use Rattle.zk_layout.specs.declared.namespace.Namespace.{Namespace}
use Rattle.wit_columns.specs.Values.{instances_of, width_of, rows_of, value_at}
use Rattle.machine_columns.specs.Values.{constants_per, value_in, width_at}
use Rattle.machine_columns.specs.Place.{air_in}
use Rattle.machine_columns.proofs.Values.{value_is, cell_held, air_at}

-- the laws of zk_layout
pub record NumberLaws : Type 0 where
  pub airs : (q : Profile) (a : Air) → slice_get (in_profile q machine_airs) (air_number a) ≡ Some (shape_in q a)
  pub spaces : (space : Namespace) → namespace_at (namespace_number space) ≡ space

own_air : (a : Air) → air_in (namespace_of a) ≡ Some a
unfolding air_in namespace_of
own_air airs.Main = refl
own_air airs.Mem = refl
own_air airs.Binary = refl
own_air airs.Shift = refl
own_air airs.Arith = refl
own_air airs.Align = refl
own_air airs.Out = refl

number_below : (a : Air) → namespace_number (namespace_of a) < 13
unfolding namespace_number namespace_of
number_below airs.Main = omega arith
number_below airs.Mem = omega arith
number_below airs.Binary = omega arith
number_below airs.Shift = omega arith
number_below airs.Arith = omega arith
number_below airs.Align = omega arith
number_below airs.Out = omega arith

same_width : (q : Profile) (a : Air) → (shape_in q a).columns ≡ columns_per a
same_width Small a = refl
same_width Wide airs.Main = refl
same_width Wide airs.Mem = refl
same_width Wide airs.Binary = refl
same_width Wide airs.Shift = refl
same_width Wide airs.Arith = refl
same_width Wide airs.Align = refl
same_width Wide airs.Out = refl

behind : (c k : ℕ) → (c ≤ c + k) × ((c + k) - c ≡ k)
behind c k = (omega arith, omega arith)

within : (c k n wide : ℕ) → k < wide → n ≡ c + wide → c + k < n
within c k n wide l e = omega arith

module _ (image : Img) (w : Witness) where
  of_space : (s : ℕ) (a : Air) → s < 13 → air_in (namespace_at s) ≡ Some a → (i k r : ℕ) → i < instances_of w.tables (air_number a) → k < width_of (in_profile w.profile machine_airs) (air_number a)
      → r < rows_of (in_profile w.profile machine_airs) (air_number a) → value_in image w s i (constants_per (namespace_at s) + k) r ≡ value_at w.tables (air_number a) i k r
  of_space s a below is i k r h l m =
      let o = air_at image w s below a is in
      let c = constants_per (namespace_at s) in
      let q = behind (constants_per (namespace_at s)) k in
      value_is image w s i (c + k) r (record { space = below; instance = subst (λ n. i < n) (sym o.many) h; column = within c k (width_at w s) (width_of (in_profile w.profile machine_airs) (air_number a)) l o.wide; row = subst (λ n. r < n) (sym o.high) m })
      ∙ cell_held image w (namespace_at s) i (c + k) r q.0
      ∙ o.here i ((c + k) - c) r
      ∙ ap (λ n. value_at w.tables (air_number a) i n r) q.1

pub table_value : NumberLaws → (image : Img) (w : Witness) (a : Air) (i k r : ℕ) → i < instances_of w.tables (air_number a) → k < columns_per a → r < rows_in w.profile a
    → value_in image w (namespace_number (namespace_of a)) i (constants_per (namespace_of a) + k) r ≡ value_at w.tables (air_number a) i k r
table_value laws image w a i k r h l m =
    let at : namespace_at (namespace_number (namespace_of a)) ≡ namespace_of a = laws.spaces (namespace_of a) in
    let wide : width_of (in_profile w.profile machine_airs) (air_number a) ≡ columns_per a = ap (λ o. option_map_or (λ f. f.columns) o 0) (laws.airs w.profile a) ∙ same_width w.profile a in
    let high : rows_of (in_profile w.profile machine_airs) (air_number a) ≡ rows_in w.profile a = ap (λ o. option_map_or (λ f. f.rows) o 0) (laws.airs w.profile a) in
    subst (λ x. value_in image w (namespace_number (namespace_of a)) i (constants_per x + k) r ≡ value_at w.tables (air_number a) i k r) at
    (of_space image w (namespace_number (namespace_of a)) a (number_below a) (ap air_in at ∙ own_air a) i k r h (subst (λ n. k < n) (sym wide) l) (subst (λ n. r < n) (sym high) m))
