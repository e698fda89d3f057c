-- From the machine's constants and lines to the run, and that no identity wraps.
use Rattle.std.proofs.Common.{ℕ, zero, suc, Bool, true, false, ◌&&◌, ◌≡◌, ◌≢◌, ◌<◌, ◌^◌, List, [], ◌∷◌, refl, arith}
use Rattle.std.specs.Prelude.{slice_index}
use Rattle.std.proofs.lemmas.Bool.{and_parts, false≢true}
use Rattle.pil_ast.specs.Term.{Namespace, Tuples, Line, constant, commit, inter, published, identity, lookup, bus, item_at, space_at}
use Rattle.pil_ast.specs.Columns.{Columns}
use Rattle.pil_ast.specs.Value.{Cells, around}
use Rattle.pil_ast.specs.Holds.{AllHold, all_sent, times}
use Rattle.pil_exact.specs.Exact.{HoldsExactly}
use Rattle.pil_exact.specs.Tables.{SmallTables}
use Rattle.pil_laws.specs.Sends.{Sends}
use Rattle.pil_laws.proofs.Lines.{space_holds, row_meets}
use Rattle.pil_laws.proofs.Sent.{into_sent}
use Rattle.pil_laws.proofs.Sums.{from_all}
use Rattle.machine_text.specs.Machine.{machine, main_rows}
use Rattle.machine_text.specs.Bit
use Rattle.machine_text.specs.Range16
use Rattle.machine_text.specs.BinTab
use Rattle.machine_text.specs.ShiftTab
use Rattle.machine_text.specs.Rom
use Rattle.machine_text.specs.Init
use Rattle.machine_text.specs.Align
use Rattle.machine_text.specs.Binary
use Rattle.machine_text.specs.Shift
use Rattle.machine_text.specs.Arith
use Rattle.gold.specs.declared.shapes.Profile.{Profile}
use Rattle.rv_model.specs.Image.{Img, IsLoadable}
use Rattle.step_rows.specs.Tuples.{IsOperation}
use Rattle.fixed_cols.specs.declared.sizes.Sizes.{Sizes}
use Rattle.air_main.specs.Constants.{MainConstants}
use Rattle.air_ops.specs.Binary.{HasBinary}
use Rattle.air_ops.specs.Shift.{HasShift}
use Rattle.air_arith.specs.Laws.{HasArith}
use Rattle.air_align.specs.Laws.{HasAlign}
use Rattle.main_run.specs.Whole.{IsMachine, MachineLaw, RowsLaw}
use Rattle.main_run.specs.Bus.{accesses}
use Rattle.main_run.specs.Exact.{NoWrapLaw}
use Rattle.main_run.specs.Stands.{AirsStand, StandsLaw}
use Rattle.main_run.proofs.Below.{MainLaws, StartLaws, MemLaws, TextLaws, ConstantsLaws, AirLaws, ExactLaws}
use Rattle.main_run.proofs.Known.{Machine}
use Rattle.main_run.proofs.Tables.{small_tables, shift_table, main_most, mem_most}
use Rattle.main_run.proofs.Bus.{each_of, received}
use Rattle.main_run.proofs.Run.{halt_law}
use Rattle.main_run.proofs.Whole.{whole, supposed, bus_supposed}
use Rattle.main_run.proofs.Exact.{main_exact}

abbrev operations : List Tuples
operations = Binary.operation ∷ Shift.operation ∷ Arith.operation ∷ []

-- a namespace without identities
abbrev nothing_to_wrap : Line → Bool
nothing_to_wrap (identity s a b) = false
nothing_to_wrap _ = true

abbrev all_nothing : List Line → Bool
all_nothing [] = true
all_nothing (l ∷ ls) = nothing_to_wrap l && all_nothing ls

nothing_exact : (items : List Line) (x : Cells) (l : Line) → nothing_to_wrap l ≡ true → HoldsExactly items x l
nothing_exact items x (identity s a b) e = absurd (false≢true e)
nothing_exact items x (constant n l) e = tt
nothing_exact items x (commit n l) e = tt
nothing_exact items x (inter n a) e = tt
nothing_exact items x (published n s k r) e = tt
nothing_exact items x (lookup a b) e = tt
nothing_exact items x (bus a b) e = tt

nothings_exact : (items : List Line) (x : Cells) (ls : List Line) → all_nothing ls ≡ true → (k : ℕ) → HoldsExactly items x (item_at ls k)
nothings_exact items x [] e k = refl
nothings_exact items x (l ∷ ls) e zero = nothing_exact items x l (and_parts _ _ e).0
nothings_exact items x (l ∷ ls) e (suc k) = nothings_exact items x ls (and_parts _ _ e).1 k

-- facts of the first n numbers
abbrev First : (ℕ → Type 0) → ℕ → Type 0
First P zero = Unit {0}
First P (suc n) = P zero × First (λ s. P (suc s)) n

first_at : (P : ℕ → Type 0) (n : ℕ) → First P n → (s : ℕ) → s < n → P s
first_at P zero f s l = absurd (omega arith)
first_at P (suc n) f zero l = f.0
first_at P (suc n) f (suc s) l = first_at (λ s. P (suc s)) n f.1 s (omega arith)

-- what each air supposes of columns with the machine's constants
module _ (constants : ConstantsLaws) (image : Img) (sizes : Sizes) (c : Columns) (m : IsMachine image sizes c) where
  tables : SmallTables c
  tables = small_tables image sizes c m.bits m.words m.pairs

  binary : HasBinary (machine sizes.profile) c
  binary = record { stands = refl; tables = tables; in_field = m.in_field }

  shift : HasShift (machine sizes.profile) c
  shift = record { stands = refl; tables = tables; amounts = shift_table image sizes c m.shifts; in_field = m.in_field }

  arith_air : HasArith (machine sizes.profile) c
  arith_air = record { stands = refl; tables = tables; in_field = m.in_field }

  align : HasAlign (machine sizes.profile) c
  align = record { stands = refl; tables = tables; in_field = m.in_field }

  main_constants : MainConstants image (main_rows sizes.profile) c
  main_constants = constants.main image sizes c m.main (main_most sizes.profile (c.instances 6) (main_rows sizes.profile) m.few_main refl).1

  pub airs_stand : AirsStand image sizes.profile c
  airs_stand = record {
    main = record { main = constants.profiles sizes.profile; tables = tables; rom = constants.rom image sizes c m.rom; canonical = m.in_field };
    main_constants = main_constants;
    mem = record { mem = (constants.stands sizes.profile).1; tables = tables; constants = constants.mem image sizes c m.mem (mem_most sizes.profile (c.instances 7) m.few_mem); canonical = m.in_field };
    init = constants.initial image sizes c m.init;
    out = constants.out image sizes c m.out m.one_out;
    align = align;
    binary = binary;
    shift = shift;
    arith = arith_air;
  }

module _ (constants : ConstantsLaws) (airs : AirLaws) (image : Img) (sizes : Sizes) (c : Columns) (loadable : IsLoadable image) (m : IsMachine image sizes c) (holds : AllHold (machine sizes.profile) c) where
  abbrev q : Profile
  q = sizes.profile

  abbrev ns : List Namespace
  ns = machine q

  air : AirsStand image q c
  air = airs_stand constants image sizes c m

  operation_tuples : (t : List ℕ) → times t (all_sent ns c operations) ≢ 0 → slice_index t 4 < 2 ^ 32 → IsOperation t
  operation_tuples t n small =
      let w = from_all ns c t operations n in
      each_of (λ b. Sends ns c b t → IsOperation t) operations
      ((λ s. (airs.binary ns c t air.binary holds (into_sent ns c Binary.operation t s)).0), ((λ s. (airs.shift ns c t air.shift holds (into_sent ns c Shift.operation t s) small).0), ((λ s. (airs.arith ns c t air.arith holds (into_sent ns c Arith.operation t s)).0), tt)))
      w.0 w.1.0 w.1.1 w.1.2 w.2

  pub known : Machine q c image
  known = record {
    main = air.main;
    main_constants = air.main_constants;
    some = m.some_main;
    few = (main_most q (c.instances 6) (c.rows 6) m.few_main air.main_constants.rows).0;
    loadable = loadable;
    mem_constants = air.mem.constants;
    init = air.init;
    out = air.out;
    holds = holds;
    operations = operation_tuples;
    aligned = λ t n. airs.align ns c t air.align holds n;
  }

  -- each identity of the namespace s holds in whole numbers
  abbrev IsExactIn : ℕ → Type 0
  IsExactIn s = (i r : ℕ) → i < c.instances s → r < c.rows s → (k : ℕ) → HoldsExactly (space_at ns s).items (around ns c s i r) (item_at (space_at ns s).items k)

  module _ (laws : MainLaws) (starts : StartLaws) (mem : MemLaws) (text : TextLaws) (exact : ExactLaws) where
    mem_exact : IsExactIn 7
    mem_exact i r h l k =
        let b = bus_supposed laws starts mem text q c image known in
        let w = received laws starts mem ns c (main_rows q) image b in
        exact.mem ns c b.mem b.mem_holds (accesses ns c image) w.0 w.1 i r h l k

    pub all_exact : First IsExactIn 13
    all_exact = (
      (λ i r h l. nothings_exact Bit.items (around ns c 0 i r) Bit.items refl),
      (
        (λ i r h l. nothings_exact Range16.items (around ns c 1 i r) Range16.items refl),
        (
          (λ i r h l. nothings_exact BinTab.items (around ns c 2 i r) BinTab.items refl),
          (
            (λ i r h l. nothings_exact ShiftTab.items (around ns c 3 i r) ShiftTab.items refl),
            (
              (λ i r h l. nothings_exact Rom.items (around ns c 4 i r) Rom.items refl),
              (
                (λ i r h l. nothings_exact Init.items (around ns c 5 i r) Init.items refl),
                (
                  (λ i r h l. main_exact laws starts mem text exact.main q c image known i r h l),
                  (
                    mem_exact,
                    (
                      (λ i r h l. exact.out ns c i r),
                      (
                        (λ i r h l. exact.align ns c i r air.align (row_meets ns c 9 Align.items refl (space_holds ns c holds 9) i r h l)),
                        (
                          (λ i r h l. exact.binary ns c i r air.binary (row_meets ns c 10 Binary.items refl (space_holds ns c holds 10) i r h l)),
                          (
                            (λ i r h l. exact.shift ns c i r air.shift (row_meets ns c 11 Shift.items refl (space_holds ns c holds 11) i r h l)),
                            (
                              (λ i r h l. exact.arith ns c i r air.arith (row_meets ns c 12 Arith.items refl (space_holds ns c holds 12) i r h l)),
                              tt,
                            ),
                          ),
                        ),
                      ),
                    ),
                  ),
                ),
              ),
            ),
          ),
        ),
      ),
    )

pub machine_law : MainLaws → StartLaws → MemLaws → TextLaws → ConstantsLaws → AirLaws → MachineLaw
machine_law laws starts mem text constants airs image sizes c loadable m holds = whole laws starts mem text sizes.profile c image (known constants airs image sizes c loadable m holds)

pub rows_law : MainLaws → StartLaws → MemLaws → TextLaws → ConstantsLaws → AirLaws → RowsLaw
rows_law laws starts mem text constants airs image sizes c loadable m holds =
    halt_law laws starts (machine sizes.profile) c (main_rows sizes.profile) image (accesses (machine sizes.profile) c image) (supposed laws starts mem text sizes.profile c image (known constants airs image sizes c loadable m holds))

pub no_wrap_law : MainLaws → StartLaws → MemLaws → TextLaws → ConstantsLaws → AirLaws → ExactLaws → NoWrapLaw
no_wrap_law laws starts mem text constants airs exact image sizes c loadable m holds s i r below h l k =
    first_at (IsExactIn constants airs image sizes c loadable m holds) 13 (all_exact constants airs image sizes c loadable m holds laws starts mem text exact) s below i r h l k

pub stands_law : ConstantsLaws → StandsLaw
stands_law constants image sizes c m = airs_stand constants image sizes c m
