-- Where the columns of the machine's text stand.
use Rattle.std.specs.Prelude.{◌≡◌, Option, None, Some}
use Rattle.gold.specs.declared.instances.Witness.{Witness}
use Rattle.gold.specs.declared.shapes.Form.TheVariants.{Two}
use Rattle.rv_model.specs.Image.{Img}
use Rattle.zk_layout.specs.Air.{machine_shape_of}
use Rattle.zk_layout.specs.declared.air.Air.{Air}
use Rattle.zk_layout.specs.declared.air.Air.TheVariants as airs
use Rattle.zk_layout.specs.declared.namespace.Namespace.{Namespace}
use Rattle.zk_layout.specs.declared.namespace.Namespace.TheVariants as spaces
use Rattle.fixed_cols.specs.Constants.{Fixed, fixed_of}
use Rattle.wit_columns.specs.Index.{Shaped}
use Rattle.machine_columns.specs.Accepted.{AreWellFormed}
use Rattle.machine_columns.specs.Values.{sizes_of}

-- an image, and the tables that are judged for it
pub record Claim : Type 0 where
  pub image : Img
  pub witness : Witness

-- the constants are those of the image for these tables, which are well-formed and known by the machine's shape
pub record AreColumnsOf (image : Img) (fixed : Fixed) (tables : Shaped) : Type 0 where
  pub fixed_is : fixed ≡ fixed_of image (sizes_of tables.witness)
  pub shape_is : tables.shape ≡ machine_shape_of Two
  pub well_formed : AreWellFormed tables.witness

-- the air whose tables hold a namespace's columns, where there is one
unfoldable pub air_in : Namespace → Option Air
air_in spaces.Bit = None
air_in spaces.Range16 = None
air_in spaces.BinTab = None
air_in spaces.ShiftTab = None
air_in spaces.Rom = None
air_in spaces.Init = None
air_in spaces.Main = Some airs.Main
air_in spaces.Mem = Some airs.Mem
air_in spaces.Out = Some airs.Out
air_in spaces.Align = Some airs.Align
air_in spaces.Binary = Some airs.Binary
air_in spaces.Shift = Some airs.Shift
air_in spaces.Arith = Some airs.Arith
