-- The frames have the values of the image and the tables.
use Rattle.std.proofs.Common.{ℕ, Bool, true, zero, suc, ◌≡◌, ◌<◌, ◌≤◌, ◌+◌, ◌-◌, ◌&&◌, ◌⊎◌, List, [], ◌∷◌, ◌++◌, All, Some, length, map, refl, sym, ap, subst, ◌∙◌, ⊎_elim, arith}
use Rattle.std.specs.Prelude.{nat_lt, slice_index, slice_index_or}
use Rattle.std.specs.List.{find, range_with_len}
use Rattle.std.specs.Option.{option_map_or}
use Rattle.std.proofs.lemmas.Bool.{cases_lt, lt-ltb, le-ltb}
use Rattle.std.proofs.lemmas.List.FromFn.{length-map-range_with_len, get_or-map-range_with_len}
use Rattle.gold.specs.declared.instances.Table.{Table}
use Rattle.gold.specs.declared.instances.Witness.{Witness}
use Rattle.gold.specs.declared.shapes.Profile.{Profile}
use Rattle.rv_model.specs.Image.{Img}
use Rattle.zk_layout.specs.Air.{air_number, columns_per, rows_in}
use Rattle.zk_layout.specs.declared.air.Air.{Air}
use Rattle.zk_layout.specs.declared.namespace.Namespace.{Namespace}
use Rattle.zk_layout.specs.Namespaces.{namespace_at, namespace_number, namespace_of}
use Rattle.pil_ast.specs.Term.{space_at, width}
use Rattle.pil_ast.specs.Columns.{Columns}
use Rattle.fixed_cols.specs.Constants.{Fixed, constant, constant_in, fixed_of, instances_in}
use Rattle.wit_columns.specs.Values.{instances_of, is_instance, value_at}
use Rattle.wit_columns.specs.Values as W
use Rattle.machine_text.specs.Machine.{machine}
use Rattle.machine_columns.specs.Accepted.{AreWellFormed}
use Rattle.machine_columns.specs.Values.{constants_per, sizes_of, values_of}
use Rattle.machine_columns.specs.Values as M
use Rattle.instance_pass.specs.Passes.{IsSameInstance}
use Rattle.whole_columns.specs.Whole.{cell_of, columns_at, values_of_frame, values_of_held}
use Rattle.verdict.specs.Frames.{constant_column, constants_at, framed_of, held_of, instances_at, rows_at}
use Rattle.verdict.proofs.Cases.{of_air, many, constant_space}

-- ---- the constants that are written out

plain : (k : ℕ) → 0 + k ≡ k
plain k = omega arith

pub constants_long : (f : Fixed) (s i rows : ℕ) → length (constants_at f s i rows) ≡ constants_per (namespace_at s)
constants_long f s i rows = length-map-range_with_len (constant_column f s i rows) 0 (constants_per (namespace_at s))

pub constant_cell : (f : Fixed) (s i rows k r : ℕ) → k < constants_per (namespace_at s) → r < rows → cell_of (constants_at f s i rows) k r ≡ constant_in f (namespace_at s) i k r
constant_cell f s i rows k r l m =
    ap (λ c. slice_index c r) (get_or-map-range_with_len (constant_column f s i rows) 0 (constants_per (namespace_at s)) k k [] l (plain k))
    ∙ get_or-map-range_with_len (λ r. constant_in f (namespace_at s) i k r) 0 rows r r 0 m (plain r)

in_front : (xs ys : List (List ℕ)) (k : ℕ) → k < length xs → slice_index_or (xs ++ ys) k [] ≡ slice_index_or xs k []
in_front [] ys k l = absurd (omega arith)
in_front (x ∷ xs) ys zero l = refl
in_front (x ∷ xs) ys (suc k) l = in_front xs ys k (omega arith)

behind : (xs ys : List (List ℕ)) (k : ℕ) → length xs ≤ k → slice_index_or (xs ++ ys) k [] ≡ slice_index_or ys (k - length xs) []
behind [] ys k h = ap (λ n. slice_index_or ys n []) (none k)
  where
    none : (k : ℕ) → k ≡ k - 0
    none k = omega arith
behind (x ∷ xs) ys zero h = absurd (omega arith)
behind (x ∷ xs) ys (suc k) h = behind xs ys k (omega arith) ∙ ap (λ n. slice_index_or ys n []) (less (length xs) k)
  where
    less : (n k : ℕ) → k - n ≡ suc k - suc n
    less n k = omega arith

pub held_count : (f : Fixed) (q : Profile) (s : ℕ) → s < 6 → (values_of_held (held_of f q)).instances s ≡ instances_in f (namespace_at s)
held_count f q s l =
    ap length (get_or-map-range_with_len (instances_at f q) 0 6 s s [] l (plain s))
    ∙ length-map-range_with_len (λ i. constants_at f s i (rows_at q s)) 0 (instances_in f (namespace_at s))

pub held_columns : (f : Fixed) (q : Profile) (s i : ℕ) → s < 6 → i < instances_in f (namespace_at s) → columns_at (held_of f q) s i ≡ constants_at f s i (rows_at q s)
held_columns f q s i l m =
    ap (λ x. slice_index_or x i []) (get_or-map-range_with_len (instances_at f q) 0 6 s s [] l (plain s))
    ∙ get_or-map-range_with_len (λ i. constants_at f s i (rows_at q s)) 0 (instances_in f (namespace_at s)) i i [] m (plain i)

pub constants_high : (f : Fixed) (s i rows : ℕ) → All (λ c. length c ≡ rows) (constants_at f s i rows)
constants_high f s i rows k d l =
    let m : k < constants_per (namespace_at s) = subst (λ n. k < n) (constants_long f s i rows) l in
    ap length (get_or-map-range_with_len (constant_column f s i rows) 0 (constants_per (namespace_at s)) k k d m (plain k))
    ∙ length-map-range_with_len (λ r. constant_in f (namespace_at s) i k r) 0 rows

-- ---- the values at a place

inside_true : (s i k r n m w h : ℕ) → s < n → i < m → k < w → r < h → (nat_lt s n && (nat_lt i m && (nat_lt k w && nat_lt r h))) ≡ true
inside_true s i k r n m w h a b c d = rw (lt-ltb s n a, lt-ltb i m b, lt-ltb k w c, lt-ltb r h d) refl

module _ (image : Img) (w : Witness) where
  abbrev fixed : Fixed
  fixed = fixed_of image (sizes_of w)

  abbrev c : Columns
  c = values_of image w

  constant_value : (s i k r : ℕ) → s < 13 → i < c.instances s → k < c.width s → r < c.rows s → k < constants_per (namespace_at s) → c.at s i k r ≡ constant_in fixed (namespace_at s) i k r
  unfolding M.value_in constant
  constant_value s i k r a b d e l =
      rw (inside_true s i k r 13 (c.instances s) (c.width s) (c.rows s) a b d e, lt-ltb k (constants_per (namespace_at s)) l) refl

  pub held_same : (s i : ℕ) → s < 6 → i < c.instances s → IsSameInstance (values_of_held (held_of fixed w.profile)) c s i
  held_same s i l m = record {
    rows = refl;
    values = λ k r a b.
        let below : k < constants_per (namespace_at s) = subst (λ n. k < n) (constant_space w.profile s l).wide a in
        ap (λ x. cell_of x k r) (held_columns fixed w.profile s i l m)
        ∙ constant_cell fixed s i (rows_at w.profile s) k r below b
        ∙ sym (constant_value s i k r (omega arith) m a b below);
  }

-- ---- an instance of an air

-- behind the constants stand the values of the tables
abbrev pub TablesLaw : Type 0
TablesLaw =
    (image : Img) (tables : Witness) (air : Air) (i k r : ℕ) → i < instances_of tables.tables (air_number air) → k < columns_per air → r < rows_in tables.profile air
    → (values_of image tables).at (namespace_number (namespace_of air)) i (constants_per (namespace_of air) + k) r ≡ value_at tables.tables (air_number air) i k r

module _ (law : TablesLaw) (image : Img) (w : Witness) (a : Air) (t : Table) (there : t.instance < instances_of w.tables (air_number a)) (found : find (is_instance (air_number a) t.instance) w.tables ≡ Some t) where
  abbrev s : ℕ
  s = namespace_number (namespace_of a)

  abbrev f : Fixed
  f = fixed_of image (sizes_of w)

  abbrev rows : ℕ
  rows = rows_at w.profile s

  abbrev count : ℕ
  count = constants_per (namespace_at s)

  same_count : count ≡ constants_per (namespace_of a)
  same_count = ap constants_per (of_air w.profile a).at

  past : (k c n wide : ℕ) → c ≤ k → k < n → n ≡ c + wide → k - c < wide
  past k c n wide x y e = omega arith

  again : (k c : ℕ) → c ≤ k → c + (k - c) ≡ k
  again k c h = omega arith

  tabled : (k r : ℕ) → count ≤ k → k < (values_of image w).width s → r < rows → (values_of image w).at s t.instance k r ≡ cell_of t.columns (k - count) r
  tabled k r h l m =
      subst (λ n. (values_of image w).at s t.instance n r ≡ cell_of t.columns (k - count) r) (ap (λ n. n + (k - count)) (sym same_count) ∙ again k count h)
      (law image w a t.instance (k - count) r there (past k count (width (space_at (machine w.profile) s).items) (columns_per a) h l ((of_air w.profile a).wide ∙ ap (λ n. n + columns_per a) (sym same_count))) (subst (λ n. r < n) (of_air w.profile a).high m)
      ∙ ap (λ o. option_map_or (W.value_in (k - count) r) o 0) found)

  value : (k r : ℕ) → k < (values_of image w).width s → r < rows → cell_of (constants_at f s t.instance rows ++ t.columns) k r ≡ (values_of image w).at s t.instance k r
  value k r l m =
      let long = constants_long f s t.instance rows in
      ⊎_elim
      (λ h. ap (λ x. slice_index x r) (in_front (constants_at f s t.instance rows) t.columns k (subst (λ n. k < n) (sym long) h)) ∙ constant_cell f s t.instance rows k r h m
      ∙ sym (constant_value image w s t.instance k r (of_air w.profile a).below (subst (λ n. t.instance < n) (sym (many image w a)) there) l m h))
      (λ h. ap (λ x. slice_index x r) (behind (constants_at f s t.instance rows) t.columns k (subst (λ n. n ≤ k) (sym long) h) ∙ ap (λ n. slice_index_or t.columns (k - n) []) long)
      ∙ sym (tabled k r h l m))
      (cases_lt k count)

  pub frame_same : IsSameInstance (values_of_frame (framed_of f w.profile s t)) (values_of image w) s t.instance
  frame_same = record { rows = refl; values = value }
