use Rattle.std.proofs.Common.{◌≡◌, sym, ap, subst, ◌∙◌}
use Rattle.gold.specs.declared.instances.Witness.{Witness}
use Rattle.gold.specs.declared.shapes.Form.TheVariants.{Two}
use Rattle.gold.specs.declared.shapes.Shape.{Shape}
use Rattle.rv_model.specs.Image.{Img}
use Rattle.zk_layout.specs.Air.{machine_shape_of}
use Rattle.fixed_cols.specs.declared.sizes.Sizes.{Sizes}
use Rattle.fixed_cols.specs.Constants.{Fixed, fixed_of}
use Rattle.wit_columns.specs.Index.{Shaped}
use Rattle.machine_columns.specs.Values.{sizes_of}
use Rattle.machine_columns.specs.Accepted.{AreWellFormed}
use Rattle.machine_columns.specs.Place.{AreColumnsOf}
use Rattle.machine_columns.proofs.columns.MachineColumns.new.Goals as goal

made : (image : Img) (w : Witness) (shape : Shape) (sizes : Sizes) (fixed : Fixed) (tables : Shaped) → shape ≡ machine_shape_of Two → AreWellFormed w
    → tables ≡ record { shape = shape; witness = w } → sizes ≡ sizes_of w → fixed ≡ fixed_of image sizes → AreColumnsOf image fixed tables
made image w shape sizes fixed tables is h e s f =
    subst (λ (t : Shaped). AreColumnsOf image fixed t) (sym e) (record { fixed_is = f ∙ ap (fixed_of image) s; shape_is = is; well_formed = h })

pub invariant_of-result : goal.invariant_of-result
invariant_of-result c =
    made c.args.image.now c.args.witness.now c.args.shape.now c.sizes-sizes.result c.in_ok-fixed.fixed c.in_ok-tables.tables c.requires.shape c.requires.tables c.in_ok-tables.ensures.same c.sizes-sizes.ensures c.in_ok-fixed.ensures
