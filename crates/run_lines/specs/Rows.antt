-- Columns that have the rows of a run.
use Rattle.std.specs.Prelude.{ℕ, ◌+◌, ◌*◌, ◌<◌, ◌≤◌, ◌≡◌, List, [], ◌∷◌, map, length, slice_index, slice_index_or, None}
use Rattle.zk_layout.specs.Air.{columns_per, rows_in}
use Rattle.zk_layout.specs.Namespaces.{namespace_number, namespace_of}
use Rattle.zk_layout.specs.declared.air.Air.{Air}
use Rattle.zk_layout.specs.declared.air.Air.TheVariants.{Main, Mem, Out}
use Rattle.rv_model.specs.Image.{Img}
use Rattle.rv_model.specs.declared.answer.Public.{Public}
use Rattle.pil_ast.specs.Columns.{Columns}
use Rattle.fixed_cols.specs.declared.sizes.Sizes.{Sizes}
use Rattle.run_rows.specs.Tables.{rows_to}
use Rattle.step_rows.specs.Rows.{row_in}
use Rattle.step_rows.specs.Words.{low, high}
use Rattle.mem_rows.specs.Accesses.{accesses}
use Rattle.mem_rows.specs.Order.{in_order}
use Rattle.mem_rows.specs.Rows.{rows_behind, final_values}
use Rattle.main_run.specs.Whole.{IsMachine}

-- the rows that an air has of the image's run of n steps, in order: those of its accesses, with the first row of padding behind
-- them, which knows the last; its final values; and those of its steps
unfoldable pub rows_of : Air → Img → ℕ → Public → List (List ℕ)
rows_of Mem image n public = rows_behind None (in_order (accesses image n public))
rows_of Out image n public = map (λ v. low v ∷ high v ∷ []) (final_values public)
rows_of air image n public = rows_to air (row_in air) image n

-- how many of them aren't padding
unfoldable pub count_of : Air → Img → ℕ → Public → ℕ
count_of Mem image n public = length (in_order (accesses image n public))
count_of air image n public = length (rows_of air image n public)

-- the number of the namespace of an air
abbrev pub space_of : Air → ℕ
space_of air = namespace_number (namespace_of air)

-- how many constant columns it has; they stand first
unfoldable pub constants_of : Air → ℕ
constants_of Main = 8
constants_of Mem = 5
constants_of Out = 2
constants_of _ = 0

-- the columns of the namespace of an air have these rows behind its constant columns: row number i * N + r at row r of instance
-- i, where an instance has N rows, and zeros where there is none
pub record HasRows (c : Columns) (air : Air) (rows : List (List ℕ)) : Type 0 where
  pub each : (i r k : ℕ) → i < c.instances (space_of air) → r < c.rows (space_of air) → k < columns_per air → c.at (space_of air) i (constants_of air + k) r ≡ slice_index (slice_index_or rows (i * c.rows (space_of air) + r) []) k

-- The columns have the machine's constants for tables of these sizes, and in each air the rows of the image's run of n steps that
-- publishes this.
pub record AreRunOf (image : Img) (n : ℕ) (public : Public) (sizes : Sizes) (c : Columns) : Type 0 where
  pub machine : IsMachine image sizes c
  pub heights : (air : Air) → c.rows (space_of air) ≡ rows_in sizes.profile air
  pub room : (air : Air) → count_of air image n public ≤ c.instances (space_of air) * c.rows (space_of air)
  pub rows : (air : Air) → HasRows c air (rows_of air image n public)
