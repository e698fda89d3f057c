-- A verdict on a table file, and the bytes of the file that have come.
use Rattle.std.specs.Prelude.{◌≡◌, ℕ, ◌<◌, ◌^◌, List, [], ◌++◌, length, take, Option, MatchOption}
use Rattle.gold.specs.Shapes.{Fill}
use Rattle.gold.specs.declared.instances.Table.{Table}
use Rattle.gold.specs.declared.shapes.Form.TheVariants.{Two}
use Rattle.gold.specs.declared.shapes.Shape.{Shape}
use Rattle.zk_layout.specs.Air.{machine_shape_of}
use Rattle.rv_model.specs.Image.{Img}
use Rattle.fixed_cols.specs.declared.sizes.Sizes.{Sizes}
use Rattle.tab_file.specs.Reading.{promised_counts, promised_profile}
use Rattle.tab_file.specs.Front.{CountsHaveCome, NoneFailsYet, whole_tables}
use Rattle.tab_file.specs.Stands.{AreBytes, StandsFor, taken}
use Rattle.tab_file.specs.declared.pieces.TabReader.{TabReader}
use Rattle.verdict.specs.declared.run.VerdictRun.{VerdictRun}
use Rattle.verdict.specs.Standing.{StandsForTables, places_of}
use Rattle.file_verdict.specs.declared.judging.FileVerdict.{FileVerdict}

-- the shape of the machine's tables
abbrev pub the_shape : Shape
the_shape = machine_shape_of Two

-- the profile and the numbers of tables that the file's header tells
abbrev pub sizes_in : List ℕ → Sizes
sizes_in bytes = record { profile = promised_profile bytes Two; counts = promised_counts bytes the_shape }

-- the tables stand at the first of the places that these numbers promise
abbrev pub FillPlaces : Sizes → List Table → Type 0
FillPlaces sizes tables = Fill (take (length tables) (places_of sizes)) tables

-- ---- a run

-- the numbers of tables have come, and it stands for these tables of so many
pub record IsRun (image : Img) (bytes : List ℕ) (tables : List Table) (run : VerdictRun) : Type 0 where
  pub come : CountsHaveCome bytes the_shape
  pub stands : StandsForTables image (sizes_in bytes) tables run

-- the run, if there is one, stands for these tables; if there is none, neither is there a table
abbrev pub IsRunOf : Img → List ℕ → List Table → Option VerdictRun → Type 0
IsRunOf image bytes tables run = MatchOption run (tables ≡ []) (λ r. IsRun image bytes tables r)

-- there is one from when the numbers of tables have come, and it stands for these tables
abbrev pub HasBegun : Img → List ℕ → List Table → Option VerdictRun → Type 0
HasBegun image bytes tables run = MatchOption run (CountsHaveCome bytes the_shape → ⊥) (λ r. IsRun image bytes tables r)

-- a run stands for some tables, after which these come next
pub record AreNext (image : Img) (run : VerdictRun) (tables : List Table) : Type 0 where
  pub sizes : Sizes
  pub before : List Table
  pub stands : StandsForTables image sizes before run
  pub fill : FillPlaces sizes (before ++ tables)

-- a reader stands for some bytes
pub record IsReaderOfBytes (reader : TabReader) : Type 0 where
  pub bytes : List ℕ
  pub are : AreBytes bytes
  pub stands : StandsFor reader the_shape bytes

-- ---- a verdict

-- It stands for an image, and for the bytes of a file that have come: its run, if no item of them fails, for the tables that
-- are whole.
pub record StandsForFile (image : Img) (bytes : List ℕ) (v : FileVerdict) : Type 0 where
  pub image_is : v.image ≡ image
  pub are : AreBytes bytes
  pub reader : StandsFor v.reader the_shape bytes
  pub run : NoneFailsYet bytes the_shape → HasBegun v.image bytes (whole_tables bytes the_shape) v.run

-- it stands for some image and bytes
pub record IsReady (v : FileVerdict) : Type 0 where
  pub image : Img
  pub bytes : List ℕ
  pub stands : StandsForFile image bytes v
  pub room : taken v.reader < 2 ^ 64

-- whatever image the first stands for, before any byte has come, the second stands for it and these bytes
abbrev pub IsGiven : FileVerdict → FileVerdict → List ℕ → Type 0
IsGiven start now bytes = (image : Img) → StandsForFile image [] start → StandsForFile image bytes now
