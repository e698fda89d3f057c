-- The sequential tables of a run (docs/WITNESS.md): the rows of all its steps and accesses, in order, cut into instances and
-- padded.
use Rattle.std.specs.Prelude.{◌≡◌, ◌⊎◌, ℕ, List, [], ◌∷◌, ◌++◌, Result, Ok, Err}
use Rattle.gold.specs.declared.instances.Table.{Table}
use Rattle.gold.specs.declared.instances.Witness.{Witness}
use Rattle.gold.specs.declared.shapes.Profile.TheVariants as profiles
use Rattle.zk_layout.specs.Air.{columns_per}
use Rattle.zk_layout.specs.declared.air.Air.{Air}
use Rattle.zk_layout.specs.declared.air.Air.TheVariants.{Main, Binary, Shift, Arith, Align}
use Rattle.rv_model.specs.Image.{Img}
use Rattle.rv_model.specs.Run.{end_within, EndsBy, Halted}
use Rattle.rv_model.specs.declared.answer.Public.{Public}
use Rattle.rv_model.specs.declared.answer.RunEnd.{RunEnd}
use Rattle.rv_model.specs.declared.answer.RunEnd.TheVariants as ends
use Rattle.min_trace.specs.Chunk.{Piece}
use Rattle.planner.specs.Jobs.{job_of}
use Rattle.planner.specs.declared.job.Job.{Job}
use Rattle.run_rows.specs.Runs.{chunks_to, counts_to}
use Rattle.run_rows.specs.Tables.{table_of, tables_of, rows_to}
use Rattle.step_rows.specs.Rows.{row_in}
use Rattle.mem_rows.specs.Rows.{mem_tables, out_table}
use Rattle.run_tables.specs.declared.made.Made.{Made}

-- the tables of an air whose rows are those of steps, of the run's first n steps
abbrev pub step_tables : Air → Img → ℕ → List Table
step_tables air image n = tables_of air (columns_per air) (rows_to air (row_in air) image n)

-- the tables of a run of n steps that publishes this, in order of air, then instance
unfoldable pub sequential_tables : Img → ℕ → Public → List Table
sequential_tables image n public =
    step_tables Main image n ++ mem_tables image n public ++ step_tables Binary image n ++ step_tables Shift image n ++ step_tables Arith image n
    ++ step_tables Align image n ++ out_table public ∷ []

-- they are of profile Small
abbrev pub sequential_witness : Img → ℕ → Public → Witness
sequential_witness image n public = record { profile = profiles.Small; tables = sequential_tables image n public }

-- the table of a job, of the run's first n steps
abbrev pub table_for : Img → ℕ → Job → Table
table_for image n job = table_of job.air (columns_per job.air) job.instance (rows_to job.air (row_in job.air) image n)

-- these are the chunks of the run's first n steps, and the job is one of those that they fill
pub record IsPlanned (image : Img) (n : ℕ) (chunks : List Piece) (job : Job) : Type 0 where
  pub run : chunks ≡ chunks_to image n
  pub planned : job ≡ job_of job.air (counts_to image n) job.instance

-- an answer of a run within a limit of steps, whose tables are made: where it halts they are the sequential ones, of its number
-- of steps and its public output; else it is how the run ends
abbrev pub Makes : Img → ℕ → Result Made RunEnd → Type 0
Makes image limit (Ok made) = (end_within image limit ≡ Halted made.steps made.public) × (made.witness ≡ sequential_witness image made.steps made.public)
Makes image limit (Err end) = EndsBy limit (end_within image limit) end

-- two such answers are the same, but for want of memory
abbrev pub IsOnlyMaking : Img → ℕ → Result Made RunEnd → Result Made RunEnd → Type 0
IsOnlyMaking image limit a b = Makes image limit a → Makes image limit b → (a ≡ b) ⊎ ((a ≡ Err ends.NoMemory) ⊎ (b ≡ Err ends.NoMemory))
