-- The tables of a whole run.
use Rattle.std.proofs.Common.{◌≡◌, ◌+◌, ◌<◌, ℕ, Bool, true, false, cond, eqb, List, [], ◌∷◌, ◌++◌, length, get_or, take, map, ap, sym, ◌∙◌, subst, append_assoc}
use Rattle.std.specs.Prelude.{All}
use Rattle.std.proofs.lemmas.Bool.{eq-eqb, ne_eqb}
use Rattle.std.proofs.lemmas.List.{append-nil, map_push}
use Rattle.std.proofs.lemmas.List.Elements.{All-get_or, filter_more}
use Rattle.rv_model.specs.Image.{Img}
use Rattle.zk_layout.specs.Air.{air_number}
use Rattle.zk_layout.specs.declared.air.Air.{Air}
use Rattle.gold.specs.declared.instances.Table.{Table}
use Rattle.min_trace.specs.Chunk.{Piece, IsChunk}
use Rattle.planner.specs.declared.counts.Counts.{Counts}
use Rattle.planner.specs.declared.job.Job.{Job}
use Rattle.planner.specs.Jobs.{of_air, handed, finished, IsJobIn}
use Rattle.run_rows.specs.Runs.{chunks_to, counts_to, values_of, named_by, Halts, IsJobOf}
use Rattle.run_tables.specs.Sequential.{IsPlanned, step_tables, table_for}
use Rattle.row_bench.specs.Progress.{IsWhole}
use Rattle.row_bench.specs.declared.whole.Whole.{Whole}
use Rattle.row_bench.proofs.Adding.{Shared}

-- what run_rows' and run_tables' laws say
abbrev pub LastJobs : Type 0
LastJobs = (image : Img) (n : ℕ) (j : Job) → Halts image n → All (IsChunk image) (chunks_to image n) → IsJobIn (counts_to image n) j → IsJobOf image n j (named_by image n j)

abbrev pub TablesHanded : Type 0
TablesHanded = (air : Air) (image : Img) (n : ℕ) → step_tables air image n ≡ map (table_for image n) (of_air air (handed [] (counts_to image n) ++ finished (counts_to image n)))

abbrev pub JobsHanded : Type 0
JobsHanded = (counts : List Counts) → All (IsJobIn counts) (handed [] counts ++ finished counts)

pub planned : (image : Img) (w : Whole) (chunks : List Shared) (job : Job) → chunks ≡ w.chunks.items → IsWhole image w → IsJobIn (counts_to image w.steps) job → IsPlanned image w.steps (values_of chunks) job
planned image w chunks job e is in' = record { run = ap values_of e ∙ is.chunks; planned = in'.named }

pub job_known : LastJobs → (image : Img) (w : Whole) (job : Job) (found seen : List Shared) → IsWhole image w → IsJobIn (counts_to image w.steps) job → seen ≡ found → values_of found ≡ named_by image w.steps job → IsJobOf image w.steps job (values_of seen)
job_known law image w job found seen is in' s e =
    let P : List Piece → Type 0 = All (IsChunk image) in
    let Q : List Piece → Type 0 = IsJobOf image w.steps job in
    subst Q (sym (ap values_of s ∙ e)) (law image w.steps job is.halts (subst P is.chunks is.each) in')

-- each job of a whole run is one of its plan's
pub job_in : JobsHanded → (image : Img) (w : Whole) (i : ℕ) (j : Job) → IsWhole image w → i < length w.jobs.items → j ≡ get_or w.jobs.items i j → IsJobIn (counts_to image w.steps) j
job_in law image w i j is lt at =
    let P : List Job → Type 0 = All (IsJobIn (counts_to image w.steps)) in
    let Q : Job → Type 0 = IsJobIn (counts_to image w.steps) in
    subst Q (sym at) (All-get_or Q w.jobs.items i j lt (subst P (sym is.jobs) (law (counts_to image w.steps))))
