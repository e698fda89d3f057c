-- The jobs of a list of counts, the k-th of which are those of chunk k.
use Rattle.std.specs.Prelude.{◌≡◌, ℕ, ◌+◌, ◌-◌, ◌*◌, ◌/◌, ◌%◌, ◌==◌, ◌<◌, min, max, nat_lt, List, [], ◌∷◌, ◌++◌, length, if◌then◌else◌, sum_by, map, take, drop, slice_index_or, filter}
use Rattle.std.specs.List.{flat_map, range_with_len}
use Rattle.zk_layout.specs.Air.{air_number, rows_per}
use Rattle.zk_layout.specs.declared.air.Air.{Air}
use Rattle.zk_layout.specs.declared.air.Air.TheVariants.{Main, Binary, Shift, Arith, Align}
use Rattle.planner.specs.declared.counts.Counts.{Counts}
use Rattle.planner.specs.declared.job.Job.{Job}
use Rattle.planner.specs.declared.job.Part.{Part}
use Rattle.planner.specs.Rows.{rows_in}

-- the rows that the chunks have of the air
abbrev pub total : Air → List Counts → ℕ
total air counts = sum_by (rows_in air) counts

-- the row of the air with which chunk k begins
abbrev pub first_row : Air → List Counts → ℕ → ℕ
first_row air counts k = total air (take k counts)

-- of a chunk whose rows begin at first, those from low to high, if there are any
abbrev pub part : ℕ → ℕ → ℕ → ℕ → List Part
part k first low high = if nat_lt low high then record { chunk = k; skip = low - first; take = high - low } ∷ [] else []

-- what job i takes of chunk k: of the air's rows i N to i N + N - 1 those that the chunk has
abbrev pub part_of : Air → List Counts → ℕ → ℕ → List Part
part_of air counts i k = part k (first_row air counts k) (max (i * rows_per air) (first_row air counts k)) (min (i * rows_per air + rows_per air) (first_row air counts (k + 1)))

abbrev pub parts : Air → List Counts → ℕ → List Part
parts air counts i = flat_map (part_of air counts i) (range_with_len 0 (length counts))

abbrev pub job_of : Air → List Counts → ℕ → Job
job_of a counts i = record { air = a; instance = i; parts = parts a counts i }

-- how many jobs are whole
abbrev pub whole : Air → List Counts → ℕ
whole air counts = total air counts / rows_per air

-- the jobs from a number on, so many
abbrev pub jobs : Air → List Counts → ℕ → ℕ → List Job
jobs air counts first n = map (job_of air counts) (range_with_len first n)

-- how many instances so many rows are, the last of which may have fewer rows
abbrev pub instances : Air → ℕ → ℕ
instances air rows = (rows + (rows_per air - 1)) / rows_per air

-- all jobs of an air, and how many they are
abbrev pub job_count : Air → List Counts → ℕ
job_count air counts = instances air (total air counts)

abbrev pub all_jobs : Air → List Counts → List Job
all_jobs air counts = jobs air counts 0 (job_count air counts)

-- the airs that are cut into jobs
abbrev pub airs : List Air
airs = Main ∷ Binary ∷ Shift ∷ Arith ∷ Align ∷ []

-- the jobs of an air that one more chunk makes whole
abbrev pub became_whole : Air → List Counts → Counts → List Job
became_whole air counts c = jobs air (counts ++ c ∷ []) (whole air counts) (whole air (counts ++ c ∷ []) - whole air counts)

-- the jobs that one more chunk makes whole
unfoldable pub added : List Counts → Counts → List Job
added counts c = flat_map (λ air. became_whole air counts c) airs

-- the job of an air that isn't whole, if it has a row
abbrev pub rest : Air → List Counts → List Job
rest air counts = if total air counts % rows_per air == 0 then [] else job_of air counts (whole air counts) ∷ []

-- the jobs that aren't whole and aren't empty
unfoldable pub finished : List Counts → List Job
finished counts = flat_map (λ air. rest air counts) airs

-- a part of these chunks takes something of one of them
pub record IsPartIn (counts : List Counts) (p : Part) : Type 0 where
  pub there : p.chunk < length counts
  pub some : 0 < p.take

-- a job of these chunks, and one that they make whole
pub record IsJobIn (counts : List Counts) (j : Job) : Type 0 where
  pub named : j ≡ job_of j.air counts j.instance
  pub some : j.instance < job_count j.air counts

pub record IsWholeIn (counts : List Counts) (j : Job) : Type 0 where
  pub named : j ≡ job_of j.air counts j.instance
  pub whole : j.instance < whole j.air counts

-- what adding these counts in turn hands out, after the counts before them
abbrev pub handed : List Counts → List Counts → List Job
handed before [] = []
handed before (c ∷ cs) = added before c ++ handed (before ++ c ∷ []) cs

-- the jobs of one air
abbrev pub of_air : Air → List Job → List Job
of_air air js = filter (λ (j : Job). air_number air == air_number j.air) js

-- the rows that a part names, of a list of rows for each chunk, and those that a job's parts name
abbrev pub chosen : {R : Type 0} → List (List R) → Part → List R
chosen rows p = take p.take (drop p.skip (slice_index_or rows p.chunk []))

abbrev pub all_chosen : {R : Type 0} → List (List R) → List Part → List R
all_chosen rows ps = flat_map (chosen rows) ps
