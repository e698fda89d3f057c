-- What a job's parts name is its instance of all steps that have a row.
use Rattle.std.proofs.Common.{◌≡◌, ◌+◌, ◌-◌, ◌*◌, ◌<◌, ◌≤◌, ◌⊎◌, inl, inr, ℕ, zero, suc, min, List, [], ◌∷◌, ◌++◌, length, get_or, take, drop, map, refl, ap, sym, ◌∙◌, arith}
use Rattle.std.proofs.lemmas.Bool.{cases_lt}
use Rattle.std.specs.List.{flat_map, range_with_len}
use Rattle.std.proofs.lemmas.List.{get_or_past, length-map}
use Rattle.std.proofs.lemmas.List.FromFn.{length-map-range_with_len, get_or-map-range_with_len}
use Rattle.zk_layout.specs.declared.air.Air.{Air}
use Rattle.rv_model.specs.Image.{Img}
use Rattle.min_trace.specs.Chunk.{Piece, first_step}
use Rattle.min_trace.specs.Record.{record_at, records_between}
use Rattle.min_trace.specs.declared.record.StepRecord.{StepRecord}
use Rattle.planner.specs.Rows.{has_row, with_row, rows_in, counted}
use Rattle.planner.specs.Jobs.{parts, chosen, all_chosen}
use Rattle.planner.specs.declared.counts.Counts.{Counts}
use Rattle.planner.specs.declared.job.Job.{Job}
use Rattle.planner.specs.declared.job.Part.{Part}
use Rattle.run_rows.specs.Runs.{chunks_of, steps_in, records_in, chunk_of, counts_to, IsJobOf}
use Rattle.run_rows.specs.Tables.{records_of, instance_of}
use Rattle.run_rows.specs.Gathered.{steps_of, by_chunk, named_in, all_named}
use Rattle.run_rows.proofs.Lists.{range_add, map_map, map_same, joined_map, filtered}

starts : {A : Type 0} (f : ℕ → A) (a b m : ℕ) → (m ≡ 0) ⊎ (a ≡ b) → map f (range_with_len a m) ≡ map f (range_with_len b m)
starts f a b m (inl e) = rw e refl
starts f a b m (inr e) = rw e refl

either : (n k c : ℕ) → (n - 1024 * k < 1024) ⊎ (1024 ≤ n - 1024 * k) → (min (1024 * c) (n - 1024 * (k + 1)) ≡ 0) ⊎ (1024 * (k + 1) ≡ 1024 * k + steps_in n k)
either n k c (inl h) = inl (omega arith)
either n k c (inr h) = inr (omega arith)

-- the chunks' steps are the run's steps
pieces : {A : Type 0} (f : ℕ → A) (n k chunks : ℕ) → flat_map (λ c. map f (range_with_len (first_step c) (steps_in n c))) (range_with_len k chunks) ≡ map f (range_with_len (first_step k) (min (1024 * chunks) (n - 1024 * k)))
pieces f n k zero = let e : min (1024 * 0) (n - 1024 * k) ≡ 0 = omega arith in rw e refl
pieces f n k (suc c) =
    let all : steps_in n k + min (1024 * c) (n - 1024 * (k + 1)) ≡ min (1024 * suc c) (n - 1024 * k) = omega arith in
    ap (λ zs. map f (range_with_len (1024 * k) (steps_in n k)) ++ zs) (pieces f n (k + 1) c ∙ starts f (1024 * (k + 1)) (1024 * k + steps_in n k) (min (1024 * c) (n - 1024 * (k + 1))) (either n k c (cases_lt (n - 1024 * k) 1024)))
    ∙ sym (range_add f (1024 * k) (steps_in n k) (min (1024 * c) (n - 1024 * (k + 1)))) ∙ ap (λ m. map f (range_with_len (1024 * k) m)) all

pub steps_joined : {A : Type 0} (f : ℕ → A) (n : ℕ) → flat_map (λ c. map f (range_with_len (first_step c) (steps_in n c))) (range_with_len 0 (chunks_of n)) ≡ map f (range_with_len 0 n)
steps_joined f n =
    let many : min (1024 * chunks_of n) (n - 1024 * 0) ≡ n = omega arith in
    pieces f n 0 (chunks_of n) ∙ ap (λ m. map f (range_with_len 0 m)) many

pub all_rows : (air : Air) (image : Img) (n : ℕ) → flat_map (λ xs. xs) (by_chunk air image n) ≡ records_of air image n
all_rows air image n =
    joined_map (λ k. with_row air (records_in image n k)) (range_with_len 0 (chunks_of n)) ∙ filtered (has_row air) (λ k. records_in image n k) (range_with_len 0 (chunks_of n))
    ∙ ap (with_row air) (steps_joined (record_at image) n)

-- what planner's laws say of rows by chunks
abbrev pub Counted : Type 0
Counted = (air : Air) (rs : List StepRecord) → rows_in air (counted rs) ≡ length (with_row air rs)

abbrev pub JobRows : Type 0
JobRows = (rows : List (List StepRecord)) (air : Air) (counts : List Counts) (i : ℕ) → map length rows ≡ map (rows_in air) counts → all_chosen rows (parts air counts i) ≡ instance_of air i (flat_map (λ xs. xs) rows)

pub lengths : Counted → (air : Air) (image : Img) (n : ℕ) → map length (by_chunk air image n) ≡ map (rows_in air) (counts_to image n)
lengths law air image n =
    map_map length (λ k. with_row air (records_in image n k)) (range_with_len 0 (chunks_of n))
    ∙ map_same (λ k. length (with_row air (records_in image n k))) (λ k. rows_in air (counted (records_in image n k))) (λ k. sym (law air (records_in image n k))) (range_with_len 0 (chunks_of n))
    ∙ sym (map_map (rows_in air) (λ k. counted (records_in image n k)) (range_with_len 0 (chunks_of n)))

none_past : (air : Air) (image : Img) (n k : ℕ) → chunks_of n ≤ k → [] ≡ with_row air (records_in image n k)
none_past air image n k h = let e : steps_in n k ≡ 0 = omega arith in rw e refl

of_chunk : (air : Air) (image : Img) (n k : ℕ) → (k < chunks_of n) ⊎ (chunks_of n ≤ k) → get_or (by_chunk air image n) k [] ≡ with_row air (records_in image n k)
of_chunk air image n k (inl h) = get_or-map-range_with_len (λ j. with_row air (records_in image n j)) 0 (chunks_of n) k k [] h (omega arith)
of_chunk air image n k (inr h) =
    get_or_past (by_chunk air image n) k [] (omega (arith, length-map-range_with_len (λ j. with_row air (records_in image n j)) 0 (chunks_of n))) ∙ none_past air image n k h

one_named : (air : Air) (image : Img) (n : ℕ) (p : Part) → named_in air image p (chunk_of image n p.chunk) ≡ chosen (by_chunk air image n) p
unfolding chunk_of
one_named air image n p = ap (λ xs. take p.take (drop p.skip xs)) (sym (of_chunk air image n p.chunk (cases_lt p.chunk (chunks_of n))))

each_named : (air : Air) (image : Img) (n : ℕ) (ps : List Part) → all_named air image ps (map (λ (p : Part). chunk_of image n p.chunk) ps) ≡ all_chosen (by_chunk air image n) ps
each_named air image n [] = refl
each_named air image n (p ∷ ps) = rw (one_named air image n p, each_named air image n ps) refl

pub instance_named : Counted → JobRows → (air : Air) (image : Img) (n i : ℕ) → all_chosen (by_chunk air image n) (parts air (counts_to image n) i) ≡ steps_of air image n i
instance_named law rows air image n i = rows (by_chunk air image n) air (counts_to image n) i (lengths law air image n) ∙ ap (instance_of air i) (all_rows air image n)

-- what the parts of a job name of their chunks is the job's instance
pub job_steps : Counted → JobRows → (image : Img) (n : ℕ) (job : Job) (chunks : List Piece) → IsJobOf image n job chunks → all_named job.air image job.parts chunks ≡ steps_of job.air image n job.instance
job_steps law rows image n job chunks is =
    ap (all_named job.air image job.parts) is.named ∙ each_named job.air image n job.parts ∙ ap (all_chosen (by_chunk job.air image n)) (ap (λ (j : Job). j.parts) is.planned)
    ∙ instance_named law rows job.air image n job.instance

pub job_long : (image : Img) (n : ℕ) (job : Job) (chunks : List Piece) → IsJobOf image n job chunks → length chunks ≡ length job.parts
job_long image n job chunks is = ap length is.named ∙ length-map job.parts (λ (p : Part). chunk_of image n p.chunk)

pub gathered : {T : Type 0} (f : StepRecord → T) → Counted → JobRows → (image : Img) (n : ℕ) (job : Job) (chunks : List Piece) (ps : List Part) (found more : List T) → IsJobOf image n job chunks → ps ≡ job.parts → found ≡ []
    → more ≡ found ++ map f (all_named job.air image ps chunks) → more ≡ map f (steps_of job.air image n job.instance)
gathered f law rows image n job chunks ps found more is same none m =
    m ∙ ap (λ zs. zs ++ map f (all_named job.air image ps chunks)) none ∙ ap (λ xs. map f (all_named job.air image xs chunks)) same ∙ ap (map f) (job_steps law rows image n job chunks is)
