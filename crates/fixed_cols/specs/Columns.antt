-- Columns that have the constants of the machine.
use Rattle.std.specs.Prelude.{ℕ, ◌<◌, ◌≡◌}
use Rattle.rv_model.specs.Image.{Img}
use Rattle.zk_layout.specs.Namespaces.{namespace_number}
use Rattle.zk_layout.specs.declared.namespace.Namespace.{Namespace}
use Rattle.pil_ast.specs.Columns.{Columns}
use Rattle.fixed_cols.specs.declared.sizes.Sizes.{Sizes}
use Rattle.fixed_cols.specs.Constants.{constant, instances_of}

-- the first `count` columns of a namespace of so many rows are the constants of this image and of tables of these sizes
pub record HasConstants (image : Img) (sizes : Sizes) (c : Columns) (space : Namespace) (height count : ℕ) : Type 0 where
  pub instances : c.instances (namespace_number space) ≡ instances_of image sizes space
  pub rows : c.rows (namespace_number space) ≡ height
  pub values : (i k r : ℕ) → i < c.instances (namespace_number space) → r < c.rows (namespace_number space) → k < count → c.at (namespace_number space) i k r ≡ constant image sizes space i k r
