-- What is supposed of the constants of Rom and Main. They are those of the machine: see RomConstantsLaw and MainConstantsLaw.
use Rattle.std.specs.Prelude.{ℕ, ◌+◌, ◌*◌, ◌^◌, ◌<◌, ◌≤◌, ◌≡◌, ◌==◌, ◌&&◌, cond, length, slice_get, slice_index}
use Rattle.rv_model.specs.Image.{Img}
use Rattle.zk_layout.specs.declared.namespace.Namespace.TheVariants as spaces
use Rattle.pil_ast.specs.Columns.{Columns}
use Rattle.pil_laws.specs.Joints.{Joints}
use Rattle.machine_text.specs.Machine.{main_rows}
use Rattle.machine_text.specs.Main
use Rattle.machine_text.specs.Rom
use Rattle.step_rows.specs.Rom.{rom_rows}
use Rattle.fixed_cols.specs.declared.sizes.Sizes.{Sizes}
use Rattle.fixed_cols.specs.Columns.{HasConstants}
use Rattle.fixed_cols.specs.Constants.{instruction}

-- Rom has the image's rows, one after another through all instances.
pub record RomConstants (image : Img) (c : Columns) : Type 0 where
  pub rows_are : c.rows Rom.here ≡ 1024
  pub enough : length (rom_rows image) ≤ 1024 * c.instances Rom.here
  pub values : (j q k : ℕ) → j < c.instances Rom.here → q < c.rows Rom.here → k < 22 → c.at Rom.here j k q ≡ slice_index (instruction (slice_get (rom_rows image) (1024 * j + q))) k

-- Main has n rows. STEP is the row's number, LAST the last row of an instance, L0 the first row of all, LEND the last of
-- all, and ENTRY the entry in the first row; INST, CLAST and CFIRST are those of the joint.
pub record MainConstants (image : Img) (n : ℕ) (c : Columns) : Type 0 where
  pub rows : c.rows Main.here ≡ n
  pub joints : Joints c Main.here 1 4 5
  pub is_step : (i r : ℕ) → i < c.instances Main.here → r < c.rows Main.here → c.at Main.here i 0 r ≡ i * c.rows Main.here + r
  pub is_last : (i r : ℕ) → i < c.instances Main.here → r < c.rows Main.here → c.at Main.here i 2 r ≡ cond (r + 1 == c.rows Main.here) 1 0
  pub is_first : (i r : ℕ) → i < c.instances Main.here → r < c.rows Main.here → c.at Main.here i 3 r ≡ cond (i == 0 && r == 0) 1 0
  pub is_end : (i r : ℕ) → i < c.instances Main.here → r < c.rows Main.here → c.at Main.here i 6 r ≡ cond (r + 1 == c.rows Main.here && i + 1 == c.instances Main.here) 1 0
  pub is_entry : (i r : ℕ) → i < c.instances Main.here → r < c.rows Main.here → c.at Main.here i 7 r ≡ cond (i == 0 && r == 0) image.entry 0

-- The machine's constants are so, where the instances are not too many.
abbrev pub RomConstantsLaw : Type 0
RomConstantsLaw = (image : Img) (sizes : Sizes) (c : Columns) → HasConstants image sizes c spaces.Rom 1024 22 → RomConstants image c

abbrev pub MainConstantsLaw : Type 0
MainConstantsLaw =
    (image : Img) (sizes : Sizes) (c : Columns) → HasConstants image sizes c spaces.Main (main_rows sizes.profile) 8 → c.instances Main.here ≤ 2 ^ 22 → MainConstants image (main_rows sizes.profile) c
