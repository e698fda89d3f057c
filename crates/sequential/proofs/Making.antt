-- The tables of a whole run.
use Rattle.std.proofs.Common.{◌≡◌, ◌+◌, ◌<◌, ℕ, Bool, true, false, cond, eqb, List, [], ◌∷◌, ◌++◌, length, get_or, take, map, ap, sym, ◌∙◌, subst, append_assoc}
use Rattle.std.specs.Prelude.{All}
use Rattle.std.proofs.lemmas.Bool.{eq-eqb, ne_eqb}
use Rattle.std.proofs.lemmas.List.{append-nil, map_push}
use Rattle.std.proofs.lemmas.List.Elements.{All-get_or, filter_more}
use Rattle.rv_model.specs.Image.{Img}
use Rattle.zk_layout.specs.Air.{air_number}
use Rattle.zk_layout.specs.declared.air.Air.{Air}
use Rattle.gold.specs.declared.instances.Table.{Table}
use Rattle.min_trace.specs.Chunk.{Piece, IsChunk}
use Rattle.planner.specs.declared.counts.Counts.{Counts}
use Rattle.planner.specs.declared.job.Job.{Job}
use Rattle.planner.specs.Jobs.{of_air, handed, finished, IsJobIn}
use Rattle.run_rows.specs.Runs.{chunks_to, counts_to, values_of, named_by, Halts, IsJobOf}
use Rattle.run_tables.specs.Sequential.{IsPlanned, step_tables, table_for}
use Rattle.sequential.specs.Progress.{IsWhole}
use Rattle.sequential.specs.declared.whole.Whole.{Whole}
use Rattle.sequential.proofs.Adding.{Shared}

-- what run_rows' and run_tables' laws say
abbrev pub LastJobs : Type 0
LastJobs = (image : Img) (n : ℕ) (j : Job) → Halts image n → All (IsChunk image) (chunks_to image n) → IsJobIn (counts_to image n) j → IsJobOf image n j (named_by image n j)

abbrev pub TablesHanded : Type 0
TablesHanded = (air : Air) (image : Img) (n : ℕ) → step_tables air image n ≡ map (table_for image n) (of_air air (handed [] (counts_to image n) ++ finished (counts_to image n)))

abbrev pub JobsHanded : Type 0
JobsHanded = (counts : List Counts) → All (IsJobIn counts) (handed [] counts ++ finished counts)

pub planned : (image : Img) (w : Whole) (chunks : List Shared) (job : Job) → chunks ≡ w.chunks.items → IsWhole image w → IsJobIn (counts_to image w.steps) job → IsPlanned image w.steps (values_of chunks) job
planned image w chunks job e is in' = record { run = ap values_of e ∙ is.chunks; planned = in'.named }

pub job_known : LastJobs → (image : Img) (w : Whole) (job : Job) (found seen : List Shared) → IsWhole image w → IsJobIn (counts_to image w.steps) job → seen ≡ found → values_of found ≡ named_by image w.steps job → IsJobOf image w.steps job (values_of seen)
job_known law image w job found seen is in' s e =
    let P : List Piece → Type 0 = All (IsChunk image) in
    let Q : List Piece → Type 0 = IsJobOf image w.steps job in
    subst Q (sym (ap values_of s ∙ e)) (law image w.steps job is.halts (subst P is.chunks is.each) in')

-- each job of a whole run is one of its plan's
pub job_in : JobsHanded → (image : Img) (w : Whole) (i : ℕ) (j : Job) → IsWhole image w → i < length w.jobs.items → j ≡ get_or w.jobs.items i j → IsJobIn (counts_to image w.steps) j
job_in law image w i j is lt at =
    let P : List Job → Type 0 = All (IsJobIn (counts_to image w.steps)) in
    let Q : Job → Type 0 = IsJobIn (counts_to image w.steps) in
    subst Q (sym at) (All-get_or Q w.jobs.items i j lt (subst P (sym is.jobs) (law (counts_to image w.steps))))

-- one job more was looked at: its table was put behind, or it is another air's
pub one_more : (air : Air) (image : Img) (n i : ℕ) (jobs : List Job) (j : Job) (initial old new : List Table) (t : Table) → i < length jobs → j ≡ get_or jobs i j → air_number air ≡ air_number j.air → t ≡ table_for image n j → new ≡ old ++ t ∷ []
    → old ≡ initial ++ map (table_for image n) (of_air air (take i jobs)) → new ≡ initial ++ map (table_for image n) (of_air air (take (i + 1) jobs))
one_more air image n i jobs j initial old new t lt at e is p h =
    let p_of : Job → Bool = λ (k : Job). eqb (air_number air) (air_number k.air) in
    let b : p_of (get_or jobs i j) ≡ true = ap p_of (sym at) ∙ eq-eqb (air_number air) (air_number j.air) e in
    let more : of_air air (take (i + 1) jobs) ≡ of_air air (take i jobs) ++ j ∷ [] =
    filter_more p_of jobs i j lt ∙ ap (λ x. of_air air (take i jobs) ++ cond x (get_or jobs i j ∷ []) []) b ∙ ap (λ x. of_air air (take i jobs) ++ x ∷ []) (sym at) in
    p ∙ ap (λ xs. xs ++ t ∷ []) h ∙ ap (λ x. (initial ++ map (table_for image n) (of_air air (take i jobs))) ++ x ∷ []) is
    ∙ append_assoc initial (map (table_for image n) (of_air air (take i jobs))) (table_for image n j ∷ []) ∙ ap (λ xs. initial ++ xs) (sym (map_push (table_for image n) (of_air air (take i jobs)) j) ∙ ap (map (table_for image n)) (sym more))

pub passed_over : (air : Air) (image : Img) (n i : ℕ) (jobs : List Job) (j : Job) (initial old : List Table) → i < length jobs → j ≡ get_or jobs i j → (air_number air ≡ air_number j.air → ⊥)
    → old ≡ initial ++ map (table_for image n) (of_air air (take i jobs)) → old ≡ initial ++ map (table_for image n) (of_air air (take (i + 1) jobs))
passed_over air image n i jobs j initial old lt at e h =
    let p_of : Job → Bool = λ (k : Job). eqb (air_number air) (air_number k.air) in
    let b : p_of (get_or jobs i j) ≡ false = ap p_of (sym at) ∙ ne_eqb (air_number air) (air_number j.air) e in
    let more : of_air air (take (i + 1) jobs) ≡ of_air air (take i jobs) =
    filter_more p_of jobs i j lt ∙ ap (λ x. of_air air (take i jobs) ++ cond x (get_or jobs i j ∷ []) []) b ∙ append-nil (of_air air (take i jobs)) in
    h ∙ ap (λ xs. initial ++ map (table_for image n) xs) (sym more)

pub all_pushed : TablesHanded → (air : Air) (image : Img) (w : Whole) (jobs : List Job) (initial new : List Table) → IsWhole image w → jobs ≡ w.jobs.items → new ≡ initial ++ map (table_for image w.steps) (of_air air jobs) → new ≡ initial ++ step_tables air image w.steps
all_pushed law air image w jobs initial new is e h = h ∙ ap (λ xs. initial ++ map (table_for image w.steps) (of_air air xs)) (e ∙ is.jobs) ∙ ap (λ xs. initial ++ xs) (sym (law air image w.steps))
