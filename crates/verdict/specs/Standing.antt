-- A run of the verdict, and the tables that were added to it.
use Rattle.std.specs.Prelude.{ℕ, ◌<◌, ◌≡◌, ◌++◌, ◌∷◌, [], List, true, Option, Some, None, length, take, slice_get}
use Rattle.gold.specs.Shapes.{AreCounts, Fill, Fits, Place, in_profile, places_from}
use Rattle.gold.specs.declared.instances.Table.{Table}
use Rattle.gold.specs.declared.instances.Witness.{Witness}
use Rattle.rv_model.specs.Image.{Img}
use Rattle.zk_layout.specs.Air.{air_number, airs, machine_airs}
use Rattle.zk_layout.specs.declared.air.Air.{Air}
use Rattle.zk_layout.specs.declared.air.Air.TheVariants as variants
use Rattle.zk_layout.specs.Namespaces.{namespace_at, namespace_number, namespace_of}
use Rattle.std.specs.List.{slice_index_or}
use Rattle.pil_ast.specs.Term.{Namespace}
use Rattle.pil_ast.specs.Tree.{namespaces}
use Rattle.pil_ast.specs.Columns.{Columns}
use Rattle.pil_ast.specs.Sound.{IsSound}
use Rattle.fixed_cols.specs.declared.sizes.Sizes.{Sizes}
use Rattle.fixed_cols.specs.Constants.{fixed_of}
use Rattle.fixed_cols.specs.Constants as C
use Rattle.wit_columns.specs.Values.{instances_of}
use Rattle.machine_text.specs.Machine.{machine}
use Rattle.machine_columns.specs.Accepted.{AreWellFormed}
use Rattle.machine_columns.specs.Place.{air_in}
use Rattle.machine_columns.specs.Values.{sizes_of, values_of}
use Rattle.pil_checker.specs.declared.checker.Checker.{Checker}
use Rattle.pil_checker.specs.Standing.{IsBuilt, StandsFor, added}
use Rattle.verdict.specs.declared.run.VerdictRun.{VerdictRun}
use Rattle.verdict.specs.Told.{told_by}

-- a file of the machine's tables may have so many of each air in this profile
abbrev pub AreAllowed : Sizes → Type 0
AreAllowed sizes = AreCounts true 0 (in_profile sizes.profile machine_airs) sizes.counts

-- the places of its tables, in the order of the file
abbrev pub places_of : Sizes → List Place
places_of sizes = places_from 0 (in_profile sizes.profile machine_airs) sizes.counts

-- the table comes next after these
pub record ComesNext (sizes : Sizes) (tables : List Table) (table : Table) : Type 0 where
  pub place : Place
  pub is_place : slice_get (places_of sizes) (length tables) ≡ Some place
  pub fits : Fits place table

-- the air with this number
abbrev pub air_at : ℕ → Air
air_at a = slice_index_or airs a variants.Main

-- how many instances of the namespace s there are in these tables; where it has constants alone, all of them
abbrev pub count_in : Img → Sizes → List Table → ℕ → Option Air → ℕ
count_in image sizes tables s None = C.instances_of image sizes (namespace_at s)
count_in image sizes tables s (Some air) = instances_of tables (air_number air)

-- a checker's counts are those of these tables
abbrev pub AreCounted : Img → Sizes → List Table → Checker → Type 0
AreCounted image sizes tables checker = (s : ℕ) → s < 13 → added checker s ≡ count_in image sizes tables s (air_in (namespace_at s))

-- well-formed tables of these sizes that begin so
pub record BeginsWith (sizes : Sizes) (tables : List Table) (witness : Witness) : Type 0 where
  pub formed : AreWellFormed witness
  pub sized : sizes_of witness ≡ sizes
  pub rest : List Table
  pub begin : witness.tables ≡ tables ++ rest

-- A run stands for an image, sizes, and the tables that were added so far: the first of the file's.
pub record StandsForTables (image : Img) (sizes : Sizes) (tables : List Table) (run : VerdictRun) : Type 0 where
  pub allowed : AreAllowed sizes
  pub filled : Fill (take (length tables) (places_of sizes)) tables
  pub profile : run.profile ≡ sizes.profile
  pub text : namespaces run.pil ≡ machine sizes.profile
  pub sound : IsSound (machine sizes.profile)
  pub fixed : run.fixed ≡ fixed_of image sizes
  pub built : IsBuilt (machine sizes.profile) run.checker
  pub counted : AreCounted image sizes tables run.checker
  pub stands : (witness : Witness) → BeginsWith sizes tables witness → StandsFor (machine sizes.profile) (values_of image witness) run.checker
  pub told : (k : ℕ) (table : Table) → slice_get tables k ≡ Some table → table.air ≡ air_number variants.Out → run.public ≡ told_by table

-- a run stands for some tables of an image, after which the table comes next
pub record IsNext (image : Img) (run : VerdictRun) (table : Table) : Type 0 where
  pub sizes : Sizes
  pub tables : List Table
  pub stands : StandsForTables image sizes tables run
  pub next : ComesNext sizes tables table

-- the witness that these tables are
abbrev pub witness_with : Sizes → List Table → Witness
witness_with sizes tables = record { profile = sizes.profile; tables = tables }

-- the tables are all of a file's of these sizes
pub record AreAll (sizes : Sizes) (tables : List Table) : Type 0 where
  pub formed : AreWellFormed (witness_with sizes tables)
  pub sized : sizes_of (witness_with sizes tables) ≡ sizes

-- a run stands for all tables of a file
pub record IsWhole (run : VerdictRun) : Type 0 where
  pub image : Img
  pub sizes : Sizes
  pub tables : List Table
  pub stands : StandsForTables image sizes tables run
  pub all : AreAll sizes tables
