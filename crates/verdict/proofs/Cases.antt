-- Facts of the first numbers, one by one, and of airs and namespaces.
use Rattle.std.proofs.Common.{ℕ, zero, suc, ◌≡◌, ◌<◌, ◌≤◌, ◌+◌, ◌^◌, List, [], ◌∷◌, All, Some, None, unwrap_or, refl, sym, ap, subst, arith}
use Rattle.std.specs.Prelude.{slice_get}
use Rattle.std.proofs.lemmas.Option.{none-some}
use Rattle.gold.specs.declared.shapes.AirShape.{AirShape}
use Rattle.gold.specs.declared.shapes.Profile.{Profile}
use Rattle.gold.specs.declared.shapes.Profile.TheVariants.{Small, Wide}
use Rattle.gold.specs.declared.instances.Witness.{Witness}
use Rattle.gold.specs.Shapes.{in_profile}
use Rattle.rv_model.specs.Image.{Img}
use Rattle.zk_layout.specs.Air.{air_number, columns_per, machine_airs, most_per, rows_in, rows_per, shape_in}
use Rattle.zk_layout.specs.declared.air.Air.{Air}
use Rattle.zk_layout.specs.declared.air.Air.TheVariants as airs
use Rattle.zk_layout.specs.Namespaces.{namespace_at, namespace_number, namespace_of}
use Rattle.pil_ast.specs.Term.{space_at, width}
use Rattle.fixed_cols.specs.Constants as C
use Rattle.wit_columns.specs.Values.{instances_of}
use Rattle.machine_text.specs.Machine.{machine}
use Rattle.machine_columns.specs.Place.{air_in}
use Rattle.machine_columns.specs.Values.{constants_per, sizes_of}
use Rattle.machine_columns.specs.Values as M
use Rattle.verdict.specs.Standing.{air_at, count_in}

abbrev pub First : (ℕ → Type 0) → ℕ → Type 0
First P zero = Unit {0}
First P (suc n) = P zero × First (λ s. P (suc s)) n

pub first_at : (P : ℕ → Type 0) (n : ℕ) → First P n → (s : ℕ) → s < n → P s
first_at P zero f s l = absurd (omega arith)
first_at P (suc n) f zero l = f.0
first_at P (suc n) f (suc s) l = first_at (λ s. P (suc s)) n f.1 s (omega arith)

same : {X : Type 0} (x y : X) → Some x ≡ Some y → x ≡ y
same x y h = ap (λ o. unwrap_or o x) h

-- ---- an air's namespace

pub record OfAir (q : Profile) (a : Air) : Type 0 where
  pub below : namespace_number (namespace_of a) < 13
  pub late : 6 ≤ namespace_number (namespace_of a)
  pub wide : width (space_at (machine q) (namespace_number (namespace_of a))).items ≡ constants_per (namespace_of a) + columns_per a
  pub high : (space_at (machine q) (namespace_number (namespace_of a))).rows ≡ rows_in q a
  pub at : namespace_at (namespace_number (namespace_of a)) ≡ namespace_of a
  pub air : air_in (namespace_at (namespace_number (namespace_of a))) ≡ Some a
  pub number : air_at (air_number a) ≡ a

pub of_air : (q : Profile) (a : Air) → OfAir q a
unfolding namespace_number namespace_of constants_per columns_per rows_per air_in air_number
of_air Small airs.Main = record { below = omega arith; late = omega arith; wide = refl; high = refl; at = refl; air = refl; number = refl }
of_air Small airs.Mem = record { below = omega arith; late = omega arith; wide = refl; high = refl; at = refl; air = refl; number = refl }
of_air Small airs.Binary = record { below = omega arith; late = omega arith; wide = refl; high = refl; at = refl; air = refl; number = refl }
of_air Small airs.Shift = record { below = omega arith; late = omega arith; wide = refl; high = refl; at = refl; air = refl; number = refl }
of_air Small airs.Arith = record { below = omega arith; late = omega arith; wide = refl; high = refl; at = refl; air = refl; number = refl }
of_air Small airs.Align = record { below = omega arith; late = omega arith; wide = refl; high = refl; at = refl; air = refl; number = refl }
of_air Small airs.Out = record { below = omega arith; late = omega arith; wide = refl; high = refl; at = refl; air = refl; number = refl }
of_air Wide airs.Main = record { below = omega arith; late = omega arith; wide = refl; high = refl; at = refl; air = refl; number = refl }
of_air Wide airs.Mem = record { below = omega arith; late = omega arith; wide = refl; high = refl; at = refl; air = refl; number = refl }
of_air Wide airs.Binary = record { below = omega arith; late = omega arith; wide = refl; high = refl; at = refl; air = refl; number = refl }
of_air Wide airs.Shift = record { below = omega arith; late = omega arith; wide = refl; high = refl; at = refl; air = refl; number = refl }
of_air Wide airs.Arith = record { below = omega arith; late = omega arith; wide = refl; high = refl; at = refl; air = refl; number = refl }
of_air Wide airs.Align = record { below = omega arith; late = omega arith; wide = refl; high = refl; at = refl; air = refl; number = refl }
of_air Wide airs.Out = record { below = omega arith; late = omega arith; wide = refl; high = refl; at = refl; air = refl; number = refl }

-- it has as many instances as there are tables
pub many : (image : Img) (w : Witness) (a : Air) → M.instances_at image w (namespace_number (namespace_of a)) ≡ instances_of w.tables (air_number a)
unfolding namespace_number namespace_of air_number
many image w airs.Main = refl
many image w airs.Mem = refl
many image w airs.Binary = refl
many image w airs.Shift = refl
many image w airs.Arith = refl
many image w airs.Align = refl
many image w airs.Out = refl

-- ---- an air by its number

pub record Numbered (q : Profile) (n : ℕ) (form : AirShape) : Type 0 where
  pub low : n < 7
  pub number : air_number (air_at n) ≡ n
  pub shape : form ≡ shape_in q (air_at n)

pub numbered : (q : Profile) (n : ℕ) (form : AirShape) → slice_get (in_profile q machine_airs) n ≡ Some form → Numbered q n form
unfolding air_number
numbered Small zero form is = record { low = omega arith; number = refl; shape = sym (same _ form is) }
numbered Small (suc zero) form is = record { low = omega arith; number = refl; shape = sym (same _ form is) }
numbered Small (suc (suc zero)) form is = record { low = omega arith; number = refl; shape = sym (same _ form is) }
numbered Small (suc (suc (suc zero))) form is = record { low = omega arith; number = refl; shape = sym (same _ form is) }
numbered Small (suc (suc (suc (suc zero)))) form is = record { low = omega arith; number = refl; shape = sym (same _ form is) }
numbered Small (suc (suc (suc (suc (suc zero))))) form is = record { low = omega arith; number = refl; shape = sym (same _ form is) }
numbered Small (suc (suc (suc (suc (suc (suc zero)))))) form is = record { low = omega arith; number = refl; shape = sym (same _ form is) }
numbered Small (suc (suc (suc (suc (suc (suc (suc n))))))) form is = absurd (none-some form is)
numbered Wide zero form is = record { low = omega arith; number = refl; shape = sym (same _ form is) }
numbered Wide (suc zero) form is = record { low = omega arith; number = refl; shape = sym (same _ form is) }
numbered Wide (suc (suc zero)) form is = record { low = omega arith; number = refl; shape = sym (same _ form is) }
numbered Wide (suc (suc (suc zero))) form is = record { low = omega arith; number = refl; shape = sym (same _ form is) }
numbered Wide (suc (suc (suc (suc zero)))) form is = record { low = omega arith; number = refl; shape = sym (same _ form is) }
numbered Wide (suc (suc (suc (suc (suc zero))))) form is = record { low = omega arith; number = refl; shape = sym (same _ form is) }
numbered Wide (suc (suc (suc (suc (suc (suc zero)))))) form is = record { low = omega arith; number = refl; shape = sym (same _ form is) }
numbered Wide (suc (suc (suc (suc (suc (suc (suc n))))))) form is = absurd (none-some form is)

pub shape_columns : (q : Profile) (a : Air) → (shape_in q a).columns ≡ columns_per a
shape_columns Small a = refl
shape_columns Wide airs.Main = refl
shape_columns Wide airs.Mem = refl
shape_columns Wide airs.Binary = refl
shape_columns Wide airs.Shift = refl
shape_columns Wide airs.Arith = refl
shape_columns Wide airs.Align = refl
shape_columns Wide airs.Out = refl

-- ---- a namespace by its number

abbrev IsOwn : ℕ → Type 0
IsOwn s = (b : Air) → air_in (namespace_at s) ≡ Some b → s ≡ namespace_number (namespace_of b)

own : First IsOwn 13
unfolding air_in namespace_number namespace_of
own = (
  (λ b e. absurd (none-some b e)),
  (
    (λ b e. absurd (none-some b e)),
    (
      (λ b e. absurd (none-some b e)),
      (
        (λ b e. absurd (none-some b e)),
        (
          (λ b e. absurd (none-some b e)),
          (
            (λ b e. absurd (none-some b e)),
            (
              (λ b e. ap (λ o. namespace_number (namespace_of (unwrap_or o airs.Main))) e),
              ((λ b e. ap (λ o. namespace_number (namespace_of (unwrap_or o airs.Main))) e), ((λ b e. ap (λ o. namespace_number (namespace_of (unwrap_or o airs.Main))) e), ((λ b e. ap (λ o. namespace_number (namespace_of (unwrap_or o airs.Main))) e), ((λ b e. ap (λ o. namespace_number (namespace_of (unwrap_or o airs.Main))) e), ((λ b e. ap (λ o. namespace_number (namespace_of (unwrap_or o airs.Main))) e), ((λ b e. ap (λ o. namespace_number (namespace_of (unwrap_or o airs.Main))) e), tt)))))),
            ),
          ),
        ),
      ),
    ),
  ),
)

pub own_number : (s : ℕ) → s < 13 → IsOwn s
own_number s l = first_at IsOwn 13 own s l

-- each namespace has as many instances as are counted
abbrev IsCount : Img → Witness → ℕ → Type 0
IsCount image w s = count_in image (sizes_of w) w.tables s (air_in (namespace_at s)) ≡ C.instances_of image (sizes_of w) (namespace_at s)

all_counts : (image : Img) (w : Witness) → First (IsCount image w) 13
unfolding air_in air_number
all_counts image w = (refl, (refl, (refl, (refl, (refl, (refl, (refl, (refl, (refl, (refl, (refl, (refl, (refl, tt)))))))))))))

pub count_is : (image : Img) (w : Witness) (s : ℕ) → s < 13 → IsCount image w s
count_is image w s l = first_at (IsCount image w) 13 (all_counts image w) s l

-- ---- the namespaces that have constants alone

pub record Constant (q : Profile) (s : ℕ) : Type 0 where
  pub wide : width (space_at (machine q) s).items ≡ constants_per (namespace_at s)
  pub air : air_in (namespace_at s) ≡ None

all_constant : (q : Profile) → First (Constant q) 6
unfolding air_in constants_per
all_constant q = (record { wide = refl; air = refl }, (record { wide = refl; air = refl }, (record { wide = refl; air = refl }, (record { wide = refl; air = refl }, (record { wide = refl; air = refl }, (record { wide = refl; air = refl }, tt))))))

pub constant_space : (q : Profile) (s : ℕ) → s < 6 → Constant q s
constant_space q s l = first_at (Constant q) 6 (all_constant q) s l

-- ---- no namespace has too many rows, no air too many instances

abbrev HasFewRows : Profile → ℕ → Type 0
HasFewRows q s = (space_at (machine q) s).rows ≤ 65536

rows_by : (q : Profile) → First (HasFewRows q) 13
rows_by Small = (omega arith, (omega arith, (omega arith, (omega arith, (omega arith, (omega arith, (omega arith, (omega arith, (omega arith, (omega arith, (omega arith, (omega arith, (omega arith, tt)))))))))))))
rows_by Wide = (omega arith, (omega arith, (omega arith, (omega arith, (omega arith, (omega arith, (omega arith, (omega arith, (omega arith, (omega arith, (omega arith, (omega arith, (omega arith, tt)))))))))))))

pub few_rows : (q : Profile) (s : ℕ) → s < 13 → HasFewRows q s
few_rows q s l = first_at (HasFewRows q) 13 (rows_by q) s l

few_of : (a : Air) → most_per a ≤ 2 ^ 22
unfolding most_per
few_of airs.Main = omega arith
few_of airs.Mem = omega arith
few_of airs.Binary = omega arith
few_of airs.Shift = omega arith
few_of airs.Arith = omega arith
few_of airs.Align = omega arith
few_of airs.Out = omega arith

few_shape : (q : Profile) (a : Air) → (shape_in q a).most ≤ 2 ^ 22
few_shape Small a = few_of a
few_shape Wide airs.Main = omega arith
few_shape Wide airs.Mem = few_of airs.Mem
few_shape Wide airs.Binary = few_of airs.Binary
few_shape Wide airs.Shift = few_of airs.Shift
few_shape Wide airs.Arith = few_of airs.Arith
few_shape Wide airs.Align = few_of airs.Align
few_shape Wide airs.Out = few_of airs.Out

pub few_most : (q : Profile) (n : ℕ) (form : AirShape) → slice_get (in_profile q machine_airs) n ≡ Some form → form.most ≤ 2 ^ 22
few_most q n form is = let h = numbered q n form is in subst (λ (f : AirShape). f.most ≤ 2 ^ 22) (sym h.shape) (few_shape q (air_at n))
