-- What the laws of each air suppose of columns, where these have the machine's constants.
use Rattle.pil_ast.specs.Columns.{Columns}
use Rattle.gold.specs.declared.shapes.Profile.{Profile}
use Rattle.fixed_cols.specs.declared.sizes.Sizes.{Sizes}
use Rattle.machine_text.specs.Machine.{machine, main_rows}
use Rattle.rv_model.specs.Image.{Img}
use Rattle.step_rows.specs.Initial.{initial_doublewords}
use Rattle.air_main.specs.Constants.{MainConstants}
use Rattle.air_main.specs.Law.{HasMain}
use Rattle.air_mem.specs.Constants.{InitConstants, OutConstants}
use Rattle.air_mem.specs.Laws.{HasMem}
use Rattle.air_ops.specs.Binary.{HasBinary}
use Rattle.air_ops.specs.Shift.{HasShift}
use Rattle.air_arith.specs.Laws.{HasArith}
use Rattle.air_align.specs.Laws.{HasAlign}
use Rattle.main_run.specs.Whole.{IsMachine}

-- each air stands in the machine's text, with its constants
pub record AirsStand (image : Img) (q : Profile) (c : Columns) : Type 0 where
  pub main : HasMain (machine q) c (main_rows q) image
  pub main_constants : MainConstants image (main_rows q) c
  pub mem : HasMem (machine q) c
  pub init : InitConstants c (initial_doublewords image)
  pub out : OutConstants c
  pub align : HasAlign (machine q) c
  pub binary : HasBinary (machine q) c
  pub shift : HasShift (machine q) c
  pub arith : HasArith (machine q) c

abbrev pub StandsLaw : Type 0
StandsLaw = (image : Img) (sizes : Sizes) (c : Columns) → IsMachine image sizes c → AirsStand image sizes.profile c
