-- The columns are the machine's.
use Rattle.std.proofs.Common.{ℕ, ◌≡◌, ◌<◌, ◌≤◌, ◌*◌, ◌^◌, length, refl, sym, subst, ◌∙◌, arith}
use Rattle.gold.specs.declared.instances.Witness.{Witness}
use Rattle.gold.specs.declared.shapes.Profile.{Profile}
use Rattle.gold.specs.declared.shapes.Profile.TheVariants.{Small, Wide}
use Rattle.rv_model.specs.Image.{Img, IsLoadable}
use Rattle.step_rows.specs.Rom.{rom_rows}
use Rattle.step_rows.specs.Initial.{initial_doublewords}
use Rattle.zk_layout.specs.Air.{air_number}
use Rattle.zk_layout.specs.Namespaces.{namespace_at, namespace_number}
use Rattle.zk_layout.specs.declared.namespace.Namespace.{Namespace}
use Rattle.zk_layout.specs.declared.namespace.Namespace.TheVariants as spaces
use Rattle.pil_ast.specs.Columns.{Fits}
use Rattle.fixed_cols.specs.Columns.{HasConstants}
use Rattle.fixed_cols.specs.Constants.{constant}
use Rattle.fixed_cols.specs.Constants as C
use Rattle.fixed_cols.specs.declared.sizes.Sizes.{Sizes}
use Rattle.machine_text.specs.Machine.{machine, main_rows}
use Rattle.main_run.specs.Whole.{IsMachine}
use Rattle.machine_columns.specs.Values.{sizes_of, values_of, constants_per, cell, instances_at, width_at, rows_at, value_in}
use Rattle.machine_columns.specs.Accepted.{AreWellFormed}
use Rattle.machine_columns.proofs.Cases.{First, first_at}
use Rattle.machine_columns.proofs.Counts.{few, counts}
use Rattle.machine_columns.proofs.Rows.{ImageLaws, few_rows, few_doublewords, few_instances}
use Rattle.machine_columns.proofs.Values.{value_is, cell_constant, in_field}

-- ---- their numbers

-- a namespace has not too many instances, and not too many rows
pub record Bounded (n rows : ℕ) : Type 0 where
  pub instances : n ≤ 2 ^ 22
  pub in_all : n * rows ≤ 2 ^ 44

abbrev IsBounded : Img → Witness → ℕ → Type 0
IsBounded image w s = Bounded (instances_at image w s) (rows_at w s)

main_bounded : (q : Profile) (n : ℕ) → n ≤ 2 ^ 20 → Bounded n (main_rows q)
main_bounded Small n h = record { instances = omega arith; in_all = omega arith }
main_bounded Wide n h = record { instances = omega arith; in_all = omega arith }

one_bounded : (rows : ℕ) → rows ≤ 65536 → Bounded 1 rows
one_bounded rows h = record { instances = omega arith; in_all = omega arith }

few_more : (n : ℕ) → n ≤ 2 ^ 29 → n ≤ 2 ^ 30
few_more n h = omega arith

thousands : (n : ℕ) → n ≤ 2 ^ 20 → Bounded n 1024
thousands n h = record { instances = omega arith; in_all = omega arith }

thousand : (n : ℕ) → n ≤ 2 ^ 22 → Bounded n 1024
thousand n h = record { instances = h; in_all = omega arith }

two_thousand : (n : ℕ) → n ≤ 2 ^ 21 → Bounded n 2048
two_thousand n h = record { instances = omega arith; in_all = omega arith }

four_thousand : (n : ℕ) → n ≤ 2 ^ 20 → Bounded n 4096
four_thousand n h = record { instances = omega arith; in_all = omega arith }

eight_thousand : (n : ℕ) → n ≤ 2 ^ 22 → Bounded n 8192
eight_thousand n h = record { instances = h; in_all = omega arith }

single : (n : ℕ) → n ≡ 1 → Bounded n 64
single n h = record { instances = omega arith; in_all = omega arith }

all_bounded : (image : Img) (w : Witness) → AreWellFormed w → First (IsBounded image w) 13
unfolding air_number
all_bounded image w h =
    let n = few w h in (
      one_bounded 2 (omega arith),
      (
        one_bounded 65536 (omega arith),
        (
          one_bounded 65536 (omega arith),
          (
            one_bounded 512 (omega arith),
            (
              thousands _ (few_instances (length (rom_rows image)) (few_rows image)),
              (
                thousands _ (few_instances (length (initial_doublewords image)) (few_more _ (few_doublewords image))),
                (
                  main_bounded w.profile _ n.main,
                  (eight_thousand _ n.mem, (single _ n.out, (two_thousand _ n.align, (four_thousand _ n.binary, (thousand _ n.shift, (thousand _ n.arith_, tt)))))),
                ),
              ),
            ),
          ),
        ),
      ),
    )

-- the namespaces that have constants alone, whatever the tables
pub few_constant : (image : Img) (sizes : Sizes) (s : ℕ) → s < 6 → C.instances_of image sizes (namespace_at s) ≤ 2 ^ 20
few_constant image sizes s l =
    first_at (λ s. C.instances_of image sizes (namespace_at s) ≤ 2 ^ 20) 6
    (omega arith, (omega arith, (omega arith, (omega arith, (few_instances (length (rom_rows image)) (few_rows image), (few_instances (length (initial_doublewords image)) (few_more _ (few_doublewords image)), tt)))))) s l

bounded_at : (image : Img) (w : Witness) → AreWellFormed w → (s : ℕ) → s < 13 → IsBounded image w s
bounded_at image w h s below = first_at (IsBounded image w) 13 (all_bounded image w h) s below

pub fitting : (image : Img) (w : Witness) → AreWellFormed w → Fits (machine w.profile) (values_of image w)
fitting image w h = record {
  spaces = refl;
  width = λ s l. refl;
  rows = λ s l. refl;
  instances = λ s l. (bounded_at image w h s l).instances;
  in_all = λ s l. (bounded_at image w h s l).in_all;
}

-- ---- their constants

module _ (image : Img) (w : Witness) (space : Namespace) (height count : ℕ) where
  abbrev IsCount : ℕ → Type 0
  IsCount s = instances_at image w s ≡ C.instances_of image (sizes_of w) space

  counted : (s : ℕ) → namespace_at s ≡ space → IsCount s
  counted s at = subst (λ x. instances_at image w s ≡ C.instances_of image (sizes_of w) x) at refl

  abbrev HasValue : ℕ → ℕ → ℕ → ℕ → Type 0
  HasValue i k r s = i < instances_at image w s → r < rows_at w s → value_in image w s i k r ≡ constant image (sizes_of w) space i k r

  narrow : (k n : ℕ) → count ≤ n → k < count → k < n
  narrow k n h l = omega arith

  within : (k n : ℕ) → n ≡ count → k < count → k < n
  within k n e h = omega arith

  valued : (s : ℕ) → namespace_at s ≡ space → s < 13 → constants_per space ≡ count → count ≤ width_at w s → (i k r : ℕ) → k < count → HasValue i k r s
  valued s at below per wide i k r c a b =
      value_is image w s i k r (record { space = below; instance = a; column = narrow k (width_at w s) wide c; row = b })
      ∙ subst (λ x. cell image w x i k r ≡ constant image (sizes_of w) space i k r) (sym at) (cell_constant image w space i k r (within k (constants_per space) per c))

  has_constants : (s : ℕ) → namespace_number space ≡ s → namespace_at s ≡ space → s < 13 → rows_at w s ≡ height → constants_per space ≡ count → count ≤ width_at w s
      → HasConstants image (sizes_of w) (values_of image w) space height count
  has_constants s number at below rows per wide = record {
    instances = subst IsCount (sym number) (counted s at);
    rows = subst (λ n. rows_at w n ≡ height) (sym number) rows;
    values = λ i k r a b c. subst (HasValue i k r) (sym number) (valued s at below per wide i k r c) a b;
  }

pub out_constants : (image : Img) (w : Witness) → HasConstants image (sizes_of w) (values_of image w) spaces.Out 64 2
unfolding namespace_number constants_per
out_constants image w = has_constants image w spaces.Out 64 2 8 refl refl (omega arith) refl refl (omega arith)

pub machine_of : ImageLaws → (image : Img) (w : Witness) → IsLoadable image → AreWellFormed w → IsMachine image (sizes_of w) (values_of image w)
unfolding namespace_number constants_per air_number
machine_of laws image w loadable h =
    let n = counts w h in
    record {
      bits = has_constants image w spaces.Bit 2 1 0 refl refl (omega arith) refl refl (omega arith);
      words = has_constants image w spaces.Range16 65536 1 1 refl refl (omega arith) refl refl (omega arith);
      pairs = has_constants image w spaces.BinTab 65536 3 2 refl refl (omega arith) refl refl (omega arith);
      shifts = has_constants image w spaces.ShiftTab 512 11 3 refl refl (omega arith) refl refl (omega arith);
      rom = has_constants image w spaces.Rom 1024 22 4 refl refl (omega arith) refl refl (omega arith);
      init = has_constants image w spaces.Init 1024 4 5 refl refl (omega arith) refl refl (omega arith);
      main = has_constants image w spaces.Main (main_rows w.profile) 8 6 refl refl (omega arith) refl refl (omega arith);
      mem = has_constants image w spaces.Mem 8192 5 7 refl refl (omega arith) refl refl (omega arith);
      out = out_constants image w;
      some_main = n.some_main;
      few_main = n.main;
      few_mem = n.mem;
      one_out = n.out;
      in_field = in_field image w laws loadable h;
    }
