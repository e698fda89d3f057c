-- Where the values of the columns stand, and that they are numbers of the field.
use Rattle.std.proofs.Common.{ℕ, Bool, true, false, ◌&&◌, ◌≡◌, ◌<◌, ◌≤◌, ◌+◌, ◌-◌, ◌*◌, [], ◌∷◌, Some, None, unwrap_or, refl, sym, ap, subst, ◌∙◌, arith}
use Rattle.std.specs.Prelude.{if◌then◌else◌, nat_lt, slice_get}
use Rattle.std.proofs.lemmas.Bool.{and_parts, ltb-true, lt-ltb, le-ltb}
use Rattle.std.proofs.lemmas.Option.{none-some}
use Rattle.gold.specs.Field.{p}
use Rattle.gold.specs.declared.instances.Witness.{Witness}
use Rattle.gold.specs.declared.shapes.Profile.{Profile}
use Rattle.gold.specs.declared.shapes.Profile.TheVariants.{Small, Wide}
use Rattle.gold.specs.Shapes.{in_profile}
use Rattle.rv_model.specs.Image.{Img, IsLoadable}
use Rattle.step_rows.specs.Rom.{rom_rows}
use Rattle.step_rows.specs.Initial.{initial_doublewords}
use Rattle.zk_layout.specs.Air.{air_number, columns_per, rows_per, rows_in, machine_airs}
use Rattle.zk_layout.specs.Namespaces.{namespace_at}
use Rattle.zk_layout.specs.declared.air.Air.{Air}
use Rattle.zk_layout.specs.declared.air.Air.TheVariants as airs
use Rattle.zk_layout.specs.declared.namespace.Namespace.{Namespace}
use Rattle.zk_layout.specs.declared.namespace.Namespace.TheVariants as spaces
use Rattle.wit_columns.specs.Values.{value_at, width_of, rows_of, instances_of}
use Rattle.machine_text.specs.Machine.{main_rows}
use Rattle.fixed_cols.specs.Constants.{constant, byte_pair, shift_amount, instruction, doubleword, of_main, of_mem, of_out}
use Rattle.machine_columns.specs.Values.{sizes_of, constants_per, held, cell, instances_at, width_at, rows_at, value_in}
use Rattle.machine_columns.specs.Accepted.{AreWellFormed}
use Rattle.machine_columns.specs.Place.{air_in}
use Rattle.machine_columns.proofs.Cases.{First, first_at}
use Rattle.machine_columns.proofs.Counts.{few, canonical, value_small}
use Rattle.machine_columns.proofs.Rows.{ImageLaws, rom_small, init_small}
use Rattle.machine_columns.proofs.Small.{small_at, pair_small, shift_small, main_small, mem_small, out_small}

-- ---- a value at a place that is there

inside_true : (s i k r n m w h : ℕ) → s < n → i < m → k < w → r < h → (nat_lt s n && (nat_lt i m && (nat_lt k w && nat_lt r h))) ≡ true
inside_true s i k r n m w h a b c d = rw (lt-ltb s n a, lt-ltb i m b, lt-ltb k w c, lt-ltb r h d) refl

module _ (image : Img) (w : Witness) where
  -- row r of instance i of the namespace s has a column k
  pub record Inside (s i k r : ℕ) : Type 0 where
    pub space : s < 13
    pub instance : i < instances_at image w s
    pub column : k < width_at w s
    pub row : r < rows_at w s

  pub value_is : (s i k r : ℕ) → Inside s i k r → value_in image w s i k r ≡ cell image w (namespace_at s) i k r
  unfolding value_in
  value_is s i k r h = rw (inside_true s i k r 13 (instances_at image w s) (width_at w s) (rows_at w s) h.space h.instance h.column h.row) refl

  pub cell_constant : (space : Namespace) (i k r : ℕ) → k < constants_per space → cell image w space i k r ≡ constant image (sizes_of w) space i k r
  cell_constant space i k r h = rw (lt-ltb k (constants_per space) h) refl

  pub cell_held : (space : Namespace) (i k r : ℕ) → constants_per space ≤ k → cell image w space i k r ≡ held w space i (k - constants_per space) r
  cell_held space i k r h = rw (le-ltb k (constants_per space) h) refl

  -- ---- they are numbers of the field

  held_small : (space : Namespace) (i k r : ℕ) → AreWellFormed w → held w space i k r < p
  unfolding held
  held_small spaces.Bit i k r h = omega arith
  held_small spaces.Range16 i k r h = omega arith
  held_small spaces.BinTab i k r h = omega arith
  held_small spaces.ShiftTab i k r h = omega arith
  held_small spaces.Rom i k r h = omega arith
  held_small spaces.Init i k r h = omega arith
  held_small spaces.Main i k r h = value_small w.tables (air_number airs.Main) i k r (canonical w h)
  held_small spaces.Mem i k r h = value_small w.tables (air_number airs.Mem) i k r (canonical w h)
  held_small spaces.Out i k r h = value_small w.tables (air_number airs.Out) i k r (canonical w h)
  held_small spaces.Align i k r h = value_small w.tables (air_number airs.Align) i k r (canonical w h)
  held_small spaces.Binary i k r h = value_small w.tables (air_number airs.Binary) i k r (canonical w h)
  held_small spaces.Shift i k r h = value_small w.tables (air_number airs.Shift) i k r (canonical w h)
  held_small spaces.Arith i k r h = value_small w.tables (air_number airs.Arith) i k r (canonical w h)

  abbrev HasSmall : ℕ → ℕ → ℕ → ℕ → Type 0
  HasSmall i k r s = i < instances_at image w s → r < rows_at w s → constant image (sizes_of w) (namespace_at s) i k r < p

  rows_of_main : (q : Profile) (r : ℕ) → r < main_rows q → r < rows_in q airs.Main
  unfolding rows_per
  rows_of_main Small r h = h
  rows_of_main Wide r h = h

  constants_small : ImageLaws → IsLoadable image → AreWellFormed w → (i k r : ℕ) → First (HasSmall i k r) 13
  unfolding constant air_number
  constants_small laws loadable h i k r =
      let n = few w h in (
        (λ a b. small_at (r ∷ []) k (omega arith, tt)),
        (
          (λ a b. small_at (r ∷ []) k (omega arith, tt)),
          (
            (λ a b. small_at (byte_pair r) k (pair_small r b)),
            (
              (λ a b. small_at (shift_amount r) k (shift_small r b)),
              (
                (λ a b. small_at (instruction (slice_get (rom_rows image) (1024 * i + r))) k (rom_small laws image loadable (1024 * i + r))),
                (
                  (λ a b. small_at (doubleword (slice_get (initial_doublewords image) (1024 * i + r))) k (init_small laws image loadable (1024 * i + r))),
                  (
                    (λ a b. small_at (of_main image.entry i (instances_of w.tables 0) r (rows_in w.profile airs.Main)) k (main_small w.profile image.entry i (instances_of w.tables 0) r (laws.entry image loadable) a n.main (rows_of_main w.profile r b))),
                    (
                      (λ a b. small_at (of_mem i (instances_of w.tables 1) r (rows_in w.profile airs.Mem)) k (mem_small i (instances_of w.tables 1) r (rows_in w.profile airs.Mem) a n.mem)),
                      (
                        (λ a b. small_at (of_out r) k (out_small r b)),
                        ((λ a b. small_at [] k tt), ((λ a b. small_at [] k tt), ((λ a b. small_at [] k tt), ((λ a b. small_at [] k tt), tt)))),
                      ),
                    ),
                  ),
                ),
              ),
            ),
          ),
        ),
      )

  constant_small : ImageLaws → IsLoadable image → AreWellFormed w → (s i k r : ℕ) → s < 13 → HasSmall i k r s
  constant_small laws loadable h s i k r below = first_at (HasSmall i k r) 13 (constants_small laws loadable h i k r) s below

  either : (b : Bool) (x y : ℕ) → x < p → y < p → (if b then x else y) < p
  either true x y a c = a
  either false x y a c = c

  unless : (b : Bool) (x : ℕ) → (b ≡ true → x < p) → (if b then x else 0) < p
  unless true x h = h refl
  unless false x h = omega arith

  parts : (s i k r n m wide high : ℕ) → (nat_lt s n && (nat_lt i m && (nat_lt k wide && nat_lt r high))) ≡ true → (s < n) × (i < m) × (r < high)
  parts s i k r n m wide high e =
      let a = and_parts _ _ e in
      let b = and_parts _ _ a.1 in
      let c = and_parts _ _ b.1 in
      (ltb-true s n a.0, ltb-true i m b.0, ltb-true r high c.1)

  pub in_field : ImageLaws → IsLoadable image → AreWellFormed w → (s i k r : ℕ) → value_in image w s i k r < p
  unfolding value_in
  in_field laws loadable h s i k r =
      unless (nat_lt s 13 && (nat_lt i (instances_at image w s) && (nat_lt k (width_at w s) && nat_lt r (rows_at w s)))) _ (λ e.
      let q = parts s i k r 13 (instances_at image w s) (width_at w s) (rows_at w s) e in
      either (nat_lt k (constants_per (namespace_at s))) _ _ (constant_small laws loadable h s i k r q.0 q.1 q.2) (held_small (namespace_at s) i (k - constants_per (namespace_at s)) r h))

-- ---- the airs' columns

-- the namespace s has the air's tables behind its constants
pub record OfAir (image : Img) (w : Witness) (s : ℕ) (a : Air) : Type 0 where
  pub wide : width_at w s ≡ constants_per (namespace_at s) + width_of (in_profile w.profile machine_airs) (air_number a)
  pub high : rows_at w s ≡ rows_of (in_profile w.profile machine_airs) (air_number a)
  pub many : instances_at image w s ≡ instances_of w.tables (air_number a)
  pub here : (i k r : ℕ) → held w (namespace_at s) i k r ≡ value_at w.tables (air_number a) i k r

abbrev HasAir : Img → Witness → ℕ → Type 0
HasAir image w s = (a : Air) → air_in (namespace_at s) ≡ Some a → OfAir image w s a

same : {X : Type 0} (x y : X) → Some x ≡ Some y → x ≡ y
same x y h = ap (λ o. unwrap_or o x) h

main_high : (q : Profile) → main_rows q ≡ rows_of (in_profile q machine_airs) 0
unfolding rows_per
main_high Small = refl
main_high Wide = refl

-- widths and rows of the other airs don't depend on the profile
record Like (q : Profile) (n wide high : ℕ) : Type 0 where
  wide_is : wide ≡ width_of (in_profile q machine_airs) n
  high_is : high ≡ rows_of (in_profile q machine_airs) n

like_main : (q : Profile) → 37 ≡ width_of (in_profile q machine_airs) 0
unfolding columns_per
like_main Small = refl
like_main Wide = refl

like : (q : Profile) → Like q 1 15 8192 × Like q 2 57 4096 × Like q 3 30 1024 × Like q 4 79 1024 × Like q 5 38 2048 × Like q 6 2 64
unfolding columns_per rows_per
like Small = (record { wide_is = refl; high_is = refl }, record { wide_is = refl; high_is = refl }, record { wide_is = refl; high_is = refl }, record { wide_is = refl; high_is = refl }, record { wide_is = refl; high_is = refl }, record { wide_is = refl; high_is = refl })
like Wide = (record { wide_is = refl; high_is = refl }, record { wide_is = refl; high_is = refl }, record { wide_is = refl; high_is = refl }, record { wide_is = refl; high_is = refl }, record { wide_is = refl; high_is = refl }, record { wide_is = refl; high_is = refl })

-- of the air that it is
of_air : (image : Img) (w : Witness) (s : ℕ) (a : Air) → air_in (namespace_at s) ≡ Some a → OfAir image w s a → HasAir image w s
of_air image w s a e h b f = subst (λ x. OfAir image w s x) (same a b (sym e ∙ f)) h

no_air : (image : Img) (w : Witness) (s : ℕ) → air_in (namespace_at s) ≡ None → HasAir image w s
no_air image w s e b f = absurd (none-some b (sym e ∙ f))

all_airs : (image : Img) (w : Witness) → First (HasAir image w) 13
unfolding constants_per held air_number air_in
all_airs image w =
    let q = w.profile in
    let l = like w.profile in (
      no_air image w 0 refl,
      (
        no_air image w 1 refl,
        (
          no_air image w 2 refl,
          (
            no_air image w 3 refl,
            (
              no_air image w 4 refl,
              (
                no_air image w 5 refl,
                (
                  of_air image w 6 airs.Main refl (record { wide = ap (λ n. 8 + n) (like_main q); high = main_high q; many = refl; here = λ i k r. refl }),
                  (
                    of_air image w 7 airs.Mem refl (record { wide = ap (λ n. 5 + n) l.0.wide_is; high = l.0.high_is; many = refl; here = λ i k r. refl }),
                    (
                      of_air image w 8 airs.Out refl (record { wide = ap (λ n. 2 + n) l.5.wide_is; high = l.5.high_is; many = refl; here = λ i k r. refl }),
                      (
                        of_air image w 9 airs.Align refl (record { wide = ap (λ n. 0 + n) l.4.wide_is; high = l.4.high_is; many = refl; here = λ i k r. refl }),
                        (
                          of_air image w 10 airs.Binary refl (record { wide = ap (λ n. 0 + n) l.1.wide_is; high = l.1.high_is; many = refl; here = λ i k r. refl }),
                          (
                            of_air image w 11 airs.Shift refl (record { wide = ap (λ n. 0 + n) l.2.wide_is; high = l.2.high_is; many = refl; here = λ i k r. refl }),
                            (of_air image w 12 airs.Arith refl (record { wide = ap (λ n. 0 + n) l.3.wide_is; high = l.3.high_is; many = refl; here = λ i k r. refl }), tt),
                          ),
                        ),
                      ),
                    ),
                  ),
                ),
              ),
            ),
          ),
        ),
      ),
    )

pub air_at : (image : Img) (w : Witness) (s : ℕ) → s < 13 → (a : Air) → air_in (namespace_at s) ≡ Some a → OfAir image w s a
air_at image w s below = first_at (HasAir image w) 13 (all_airs image w) s below

-- where there is no air, no more columns stand
abbrev NothingHeld : Witness → ℕ → Type 0
NothingHeld w s = air_in (namespace_at s) ≡ None → (i k r : ℕ) → held w (namespace_at s) i k r ≡ 0

with_air : {X : Type 0} (s : ℕ) (a : Air) → air_in (namespace_at s) ≡ Some a → air_in (namespace_at s) ≡ None → X
with_air s a e f = absurd (none-some a (sym f ∙ e))

nothing_held : (w : Witness) → First (NothingHeld w) 13
unfolding held air_in
nothing_held w = (
  (λ e i k r. refl),
  (
    (λ e i k r. refl),
    (
      (λ e i k r. refl),
      (
        (λ e i k r. refl),
        (
          (λ e i k r. refl),
          (
            (λ e i k r. refl),
            (
              (λ e. with_air 6 airs.Main refl e),
              (
                (λ e. with_air 7 airs.Mem refl e),
                (
                  (λ e. with_air 8 airs.Out refl e),
                  ((λ e. with_air 9 airs.Align refl e), ((λ e. with_air 10 airs.Binary refl e), ((λ e. with_air 11 airs.Shift refl e), ((λ e. with_air 12 airs.Arith refl e), tt)))),
                ),
              ),
            ),
          ),
        ),
      ),
    ),
  ),
)

pub none_at : (w : Witness) (s : ℕ) → s < 13 → air_in (namespace_at s) ≡ None → (i k r : ℕ) → held w (namespace_at s) i k r ≡ 0
none_at w s below = first_at (NothingHeld w) 13 (nothing_held w) s below
