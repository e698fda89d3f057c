-- Last: the machine's text holds of columns with the machine's constants.
use Rattle.std.specs.Prelude.{ℕ, ◌<◌, ◌≤◌, ◌≡◌}
use Rattle.gold.specs.Field.{p}
use Rattle.pil_ast.specs.Columns.{Columns}
use Rattle.pil_ast.specs.Holds.{AllHold}
use Rattle.zk_layout.specs.Air.{shape_in}
use Rattle.zk_layout.specs.declared.air.Air.TheVariants as airs
use Rattle.zk_layout.specs.declared.namespace.Namespace.TheVariants as spaces
use Rattle.fixed_cols.specs.Columns.{HasConstants}
use Rattle.fixed_cols.specs.declared.sizes.Sizes.{Sizes}
use Rattle.machine_text.specs.Machine.{machine, main_rows}
use Rattle.machine_text.specs.Main
use Rattle.machine_text.specs.Mem
use Rattle.machine_text.specs.Out
use Rattle.rv_model.specs.Image.{Img, IsLoadable}
use Rattle.main_run.specs.Bus.{accesses}
use Rattle.main_run.specs.Run.{Halted}
use Rattle.main_run.specs.Headline.{Headline}

-- The columns have the machine's constants for the image and tables of these sizes, as many instances as a file of tables may
-- have, and values of the field.
pub record IsMachine (image : Img) (sizes : Sizes) (c : Columns) : Type 0 where
  pub bits : HasConstants image sizes c spaces.Bit 2 1
  pub words : HasConstants image sizes c spaces.Range16 65536 1
  pub pairs : HasConstants image sizes c spaces.BinTab 65536 3
  pub shifts : HasConstants image sizes c spaces.ShiftTab 512 11
  pub rom : HasConstants image sizes c spaces.Rom 1024 22
  pub init : HasConstants image sizes c spaces.Init 1024 4
  pub main : HasConstants image sizes c spaces.Main (main_rows sizes.profile) 8
  pub mem : HasConstants image sizes c spaces.Mem 8192 5
  pub out : HasConstants image sizes c spaces.Out 64 2
  pub some_main : 0 < c.instances Main.here
  pub few_main : c.instances Main.here ≤ (shape_in sizes.profile airs.Main).most
  pub few_mem : c.instances Mem.here ≤ (shape_in sizes.profile airs.Mem).most
  pub one_out : c.instances Out.here ≡ 1
  pub in_field : (s i k r : ℕ) → c.at s i k r < p

-- Where each line holds of such columns, the run of the image halts, its steps are Main's selected rows, and its public is that
-- of the tables.
abbrev pub MachineLaw : Type 0
MachineLaw = (image : Img) (sizes : Sizes) (c : Columns) → IsLoadable image → IsMachine image sizes c → AllHold (machine sizes.profile) c → Headline (machine sizes.profile) c image

-- Then too row number j has the pc and the registers and doublewords of state j, for each j up to the halt: it reads the state's
-- values, and it is step j.
abbrev pub RowsLaw : Type 0
RowsLaw =
    (image : Img) (sizes : Sizes) (c : Columns) → IsLoadable image → IsMachine image sizes c → AllHold (machine sizes.profile) c → Halted (machine sizes.profile) c image (accesses (machine sizes.profile) c image)
