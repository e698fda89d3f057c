-- The jobs of a run and its tables.
use Rattle.std.proofs.Common.{◌≡◌, ◌+◌, ◌<◌, ℕ, zero, suc, Bool, true, false, cond, eqb, List, [], ◌∷◌, ◌++◌, length, map, refl, ap, sym, ◌∙◌, subst, arith}
use Rattle.std.specs.Prelude.{All}
use Rattle.std.specs.List.{range_with_len}
use Rattle.std.proofs.lemmas.Bool.{eq-eqb}
use Rattle.std.proofs.lemmas.List.{length-map}
use Rattle.std.proofs.lemmas.List.Elements.{All-nil, All-cons, All-head, All-tail}
use Rattle.rv_model.specs.Image.{Img}
use Rattle.zk_layout.specs.Air.{air_number, columns_per}
use Rattle.zk_layout.specs.declared.air.Air.{Air}
use Rattle.step_rows.specs.Rows.{row_in}
use Rattle.planner.specs.declared.counts.Counts.{Counts}
use Rattle.planner.specs.declared.job.Job.{Job}
use Rattle.planner.specs.Jobs.{job_of, job_count, instances, total, all_jobs, of_air, handed, finished, IsJobIn}
use Rattle.run_rows.specs.Runs.{counts_to}
use Rattle.run_rows.specs.Tables.{records_of, rows_to, table_of}
use Rattle.run_tables.specs.Sequential.{step_tables, table_for}

map_map : {A B C : Type 0} (g : B → C) (f : A → B) (xs : List A) → map g (map f xs) ≡ map (λ x. g (f x)) xs
map_map g f [] = refl
map_map g f (x ∷ xs) = ap (λ zs. g (f x) ∷ zs) (map_map g f xs)

-- what run_rows' and planner's laws say
abbrev pub AreCounted : Type 0
AreCounted = (air : Air) (image : Img) (n : ℕ) → total air (counts_to image n) ≡ length (records_of air image n)

abbrev pub AreOnce : Type 0
AreOnce = (air : Air) (counts : List Counts) → of_air air (handed [] counts ++ finished counts) ≡ all_jobs air counts

pub tables_all : AreCounted → (air : Air) (image : Img) (n : ℕ) → step_tables air image n ≡ map (table_for image n) (all_jobs air (counts_to image n))
tables_all law air image n =
    let many : length (rows_to air (row_in air) image n) ≡ total air (counts_to image n) = length-map (records_of air image n) (row_in air) ∙ sym (law air image n) in
    ap (λ k. map (λ i. table_of air (columns_per air) i (rows_to air (row_in air) image n)) (range_with_len 0 (instances air k))) many
    ∙ sym (map_map (table_for image n) (job_of air (counts_to image n)) (range_with_len 0 (job_count air (counts_to image n))))

pub tables_handed : AreCounted → AreOnce → (air : Air) (image : Img) (n : ℕ) → step_tables air image n ≡ map (table_for image n) (of_air air (handed [] (counts_to image n) ++ finished (counts_to image n)))
tables_handed law once air image n = tables_all law air image n ∙ ap (map (table_for image n)) (sym (once air (counts_to image n)))

-- each job of an air is one of the chunks
jobs_in : (air : Air) (counts : List Counts) (a n : ℕ) → a + n ≡ job_count air counts → All (IsJobIn counts) (map (job_of air counts) (range_with_len a n))
jobs_in air counts a zero e = All-nil (IsJobIn counts)
jobs_in air counts a (suc n) e =
    let some : a < job_count air counts = omega arith in
    All-cons (IsJobIn counts) (job_of air counts a) (map (job_of air counts) (range_with_len (a + 1) n)) (record { named = refl; some = some }) (jobs_in air counts (a + 1) n (omega arith))

-- what holds of each air's elements holds of all
kept : (P : Job → Type 0) (j : Job) (js : List Job) (b : Bool) → All P (cond b (j ∷ js) js) → All P js
kept P j js true h = All-tail P j js h
kept P j js false h = h

first : (P : Job → Type 0) (j : Job) (js : List Job) (b : Bool) → b ≡ true → All P (cond b (j ∷ js) js) → P j
first P j js true e h = All-head P j js h
first P j js false e h = absurd (cc)

by_air : (P : Job → Type 0) (js : List Job) → ((air : Air) → All P (of_air air js)) → All P js
by_air P [] h = All-nil P
by_air P (j ∷ js) h =
    All-cons P j js (first P j (of_air j.air js) (eqb (air_number j.air) (air_number j.air)) (eq-eqb (air_number j.air) (air_number j.air) refl) (h j.air))
    (by_air P js (λ air. kept P j (of_air air js) (eqb (air_number air) (air_number j.air)) (h air)))

pub jobs_handed : AreOnce → (counts : List Counts) → All (IsJobIn counts) (handed [] counts ++ finished counts)
jobs_handed once counts =
    let P : List Job → Type 0 = All (IsJobIn counts) in
    by_air (IsJobIn counts) (handed [] counts ++ finished counts) (λ air. subst P (sym (once air counts)) (jobs_in air counts 0 (job_count air counts) (omega arith)))
