-- Chunks and counts as more steps come.
use Rattle.std.proofs.Common.{◌≡◌, ◌+◌, ◌-◌, ◌*◌, ◌/◌, ◌%◌, ◌<◌, ◌≤◌, inl, inr, ℕ, zero, suc, min, List, [], ◌∷◌, ◌++◌, length, get_or, take, drop, map, refl, ap, sym, ◌∙◌, subst, arith}
use Rattle.std.specs.Prelude.{All}
use Rattle.std.specs.List.{flat_map, sum_by, range_with_len}
use Rattle.std.proofs.Math.Nat.{lt-div-mul-add}
use Rattle.std.proofs.lemmas.List.{drop-drop, drop_at, length-map}
use Rattle.std.proofs.lemmas.List.Elements.{All-nil, All-cons, All-head, All-tail, All-get_or}
use Rattle.std.proofs.lemmas.List.FromFn.{map-range_with_len_more, length-map-range_with_len, get_or-map-range_with_len}
use Rattle.std.proofs.lemmas.List.Sums.{sum_by-cons}
use Rattle.std.proofs.lemmas.List.Concat.{length-flat_map}
use Rattle.rv_model.specs.Image.{Img}
use Rattle.rv_model.specs.declared.cpu.Cpu.{Cpu}
use Rattle.zk_layout.specs.Air.{rows_per}
use Rattle.zk_layout.specs.declared.air.Air.{Air}
use Rattle.zk_layout.specs.declared.air.Air.TheVariants.{Main, Mem, Binary, Shift, Arith, Align, Out}
use Rattle.min_trace.specs.Chunk.{Piece, IsChunk, first_step}
use Rattle.min_trace.specs.Record.{records_between, cpu_at, olds_between}
use Rattle.min_trace.specs.declared.record.StepRecord.{StepRecord}
use Rattle.planner.specs.declared.counts.Counts.{Counts}
use Rattle.planner.specs.declared.job.Job.{Job}
use Rattle.planner.specs.declared.job.Part.{Part}
use Rattle.planner.specs.Rows.{rows_in, counted}
use Rattle.planner.specs.Jobs.{parts, job_of, total, whole, job_count, instances, IsPartIn, IsJobIn, IsWholeIn}
use Rattle.run_rows.specs.Runs.{chunks_of, steps_in, records_in, chunk_of, chunks_to, counts_to, named_by, Later, Halts, IsJobOf}
use Rattle.run_rows.specs.Tables.{records_of}
use Rattle.run_rows.specs.Gathered.{by_chunk, steps_of}
use Rattle.run_rows.proofs.Lists.{take_add, range_add}
use Rattle.run_rows.proofs.Runs.{Counted, lengths, all_rows}

same_piece : (n : ℕ) (a b : Cpu) (s t : ℕ) (xs ys : List ℕ) → a ≡ b → s ≡ t → xs ≡ ys → ◌≡◌ {A = Piece} (record { number = n; start = a; steps = s; olds = xs }) (record { number = n; start = b; steps = t; olds = ys })
same_piece n a b s t xs ys e f g = rw (e, f, g) refl

all_steps : (image : Img) (c : Piece) → IsChunk image c → c.steps ≡ steps_in (first_step c.number + c.steps) c.number
all_steps image c h = omega (arith, h.most)

-- a chunk of the run is what it is after its last step
pub chunk_is : (image : Img) (c : Piece) → IsChunk image c → c ≡ chunk_of image (first_step c.number + c.steps) c.number
unfolding chunk_of
chunk_is image c h =
    let n : c.steps ≡ steps_in (first_step c.number + c.steps) c.number = all_steps image c h in
    same_piece c.number c.start (cpu_at image (first_step c.number)) c.steps (steps_in (first_step c.number + c.steps) c.number) c.olds (olds_between image (first_step c.number) (steps_in (first_step c.number + c.steps) c.number)) h.start n (h.olds ∙ ap (olds_between image (first_step c.number)) n)

steps_later : (n m k : ℕ) → Later n m → k < chunks_of n → steps_in m k ≡ steps_in n k
steps_later n m k (inl e) h = ap (λ x. steps_in x k) (sym e)
steps_later n m k (inr l) h = let a : n % 1024 ≡ 0 = l.0 in let b : n ≤ m = l.1 in omega arith

pub chunk_later : (image : Img) (n m k : ℕ) → Later n m → k < chunks_of n → chunk_of image m k ≡ chunk_of image n k
unfolding chunk_of
chunk_later image n m k l h = rw (steps_later n m k l h) refl

counts_later : (image : Img) (n m k : ℕ) → Later n m → k < chunks_of n → counted (records_in image m k) ≡ counted (records_in image n k)
counts_later image n m k l h = ap (λ s. counted (records_between image (first_step k) s)) (steps_later n m k l h)

range_same : {A : Type 0} (f g : ℕ → A) (a n b : ℕ) → a + n ≤ b → ((k : ℕ) → k < b → f k ≡ g k) → map f (range_with_len a n) ≡ map g (range_with_len a n)
range_same f g a zero b le h = refl
range_same f g a (suc n) b le h =
    let head : f a ≡ g a = h a (omega arith) in
    ap (λ x. x ∷ map f (range_with_len (a + 1) n)) head ∙ ap (λ xs. g a ∷ xs) (range_same f g (a + 1) n b (omega arith) h)

later_more : (n m : ℕ) → Later n m → chunks_of n ≤ chunks_of m
later_more n m (inl e) = omega arith
later_more n m (inr l) = let b : n ≤ m = l.1 in omega arith

-- the first counts stay, with more behind them
pub counts_more : (image : Img) (n m : ℕ) → Later n m → counts_to image m ≡ counts_to image n ++ drop (chunks_of n) (counts_to image m)
counts_more image n m l =
    let f : ℕ → Counts = λ k. counted (records_in image m k) in
    let g : ℕ → Counts = λ k. counted (records_in image n k) in
    let others : List Counts = map f (range_with_len (0 + chunks_of n) (chunks_of m - chunks_of n)) in
    let all : chunks_of m ≡ chunks_of n + (chunks_of m - chunks_of n) = omega (arith, later_more n m l) in
    let parts : counts_to image m ≡ counts_to image n ++ others =
    ap (λ k. map f (range_with_len 0 k)) all ∙ range_add f 0 (chunks_of n) (chunks_of m - chunks_of n)
    ∙ ap (λ xs. xs ++ others) (range_same f g 0 (chunks_of n) (chunks_of n) (omega arith) (λ k h. counts_later image n m k l h)) in
    let rest : drop (chunks_of n) (counts_to image m) ≡ others = ap (drop (chunks_of n)) parts ∙ drop_at (counts_to image n) others (chunks_of n) (length-map-range_with_len g 0 (chunks_of n)) in
    parts ∙ ap (λ xs. counts_to image n ++ xs) (sym rest)

one_more : {A : Type 0} (f g : ℕ → A) (number steps : ℕ) → 0 < steps → steps ≤ 1024 → ((k : ℕ) → k < chunks_of (first_step number) → f k ≡ g k)
    → map f (range_with_len 0 (chunks_of (first_step number + steps))) ≡ map g (range_with_len 0 (chunks_of (first_step number))) ++ f number ∷ []
one_more f g number steps some most h =
    let many : chunks_of (1024 * number + steps) ≡ chunks_of (1024 * number) + 1 = omega arith in
    let at : 0 + chunks_of (1024 * number) ≡ number = omega arith in
    ap (λ k. map f (range_with_len 0 k)) many ∙ map-range_with_len_more f 0 (chunks_of (1024 * number)) number at
    ∙ ap (λ xs. xs ++ f number ∷ []) (range_same f g 0 (chunks_of (1024 * number)) (chunks_of (1024 * number)) (omega arith) h)

later_one : (number steps : ℕ) → Later (first_step number) (first_step number + steps)
later_one number steps = inr (omega arith, omega arith)

pub chunks_pushed : (image : Img) (c : Piece) → IsChunk image c → chunks_to image (first_step c.number + c.steps) ≡ chunks_to image (first_step c.number) ++ c ∷ []
chunks_pushed image c is =
    one_more (chunk_of image (first_step c.number + c.steps)) (chunk_of image (first_step c.number)) c.number c.steps is.some is.most (λ k lt. chunk_later image (first_step c.number) (first_step c.number + c.steps) k (later_one c.number c.steps) lt)
    ∙ ap (λ x. chunks_to image (first_step c.number) ++ x ∷ []) (sym (chunk_is image c is))

pub counts_pushed : (image : Img) (c : Piece) → IsChunk image c → counts_to image (first_step c.number + c.steps) ≡ counts_to image (first_step c.number) ++ counted (records_between image (first_step c.number) c.steps) ∷ []
counts_pushed image c is =
    one_more (λ k. counted (records_in image (first_step c.number + c.steps) k)) (λ k. counted (records_in image (first_step c.number) k)) c.number c.steps is.some is.most (λ k lt. counts_later image (first_step c.number) (first_step c.number + c.steps) k (later_one c.number c.steps) lt)
    ∙ ap (λ s. counts_to image (first_step c.number) ++ counted (records_between image (first_step c.number) s) ∷ []) (sym (all_steps image c is))

-- all rows were counted
sum_map : {X : Type 0} (g : X → ℕ) (xs : List X) → sum_by g xs ≡ sum_by (λ n. n) (map g xs)
sum_map g [] = refl
sum_map g (x ∷ xs) = sum_by-cons g x xs ∙ ap (λ n. g x + n) (sum_map g xs) ∙ sym (sum_by-cons (λ n. n) (g x) (map g xs))

pub rows_total : Counted → (air : Air) (image : Img) (n : ℕ) → total air (counts_to image n) ≡ length (records_of air image n)
rows_total law air image n =
    sum_map (rows_in air) (counts_to image n) ∙ ap (sum_by (λ k. k)) (sym (lengths law air image n)) ∙ sym (sum_map (length {A = StepRecord}) (by_chunk air image n))
    ∙ sym (length-flat_map (λ xs. xs) (by_chunk air image n)) ∙ ap (length {A = StepRecord}) (all_rows air image n)

-- the instances of a list are the list
cut : {A : Type 0} (r : ℕ) (xs : List A) (a n : ℕ) → flat_map (λ i. take r (drop (i * r) xs)) (range_with_len a n) ≡ take (n * r) (drop (a * r) xs)
cut r xs a zero = let e : 0 * r ≡ 0 = omega arith in rw e refl
cut r xs a (suc n) =
    let many : suc n * r ≡ r + n * r = omega arith in
    let next : a * r + r ≡ (a + 1) * r = omega arith in
    ap (λ zs. take r (drop (a * r) xs) ++ zs) (cut r xs (a + 1) n ∙ ap (λ k. take (n * r) (drop k xs)) (sym next) ∙ ap (take (n * r)) (sym (drop-drop r (a * r) xs)))
    ∙ sym (take_add r (n * r) (drop (a * r) xs)) ∙ ap (λ k. take k (drop (a * r) xs)) (sym many)

take_whole : {A : Type 0} (n : ℕ) (xs : List A) → length xs ≤ n → take n xs ≡ xs
take_whole zero [] h = refl
take_whole zero (x ∷ xs) h = absurd (omega arith)
take_whole (suc n) [] h = refl
take_whole (suc n) (x ∷ xs) h = ap (λ zs. x ∷ zs) (take_whole n xs (omega arith))

positive : (air : Air) → 0 < rows_per air
unfolding rows_per
positive Main = omega arith
positive Mem = omega arith
positive Binary = omega arith
positive Shift = omega arith
positive Arith = omega arith
positive Align = omega arith
positive Out = omega arith

rounded : (r n : ℕ) → 0 < r → n ≤ (n + (r - 1)) / r * r
rounded r n pos = let low : n + (r - 1) < (n + (r - 1)) / r * r + r = lt-div-mul-add pos in omega arith

pub all_instances : (air : Air) (image : Img) (n : ℕ) → flat_map (steps_of air image n) (range_with_len 0 (instances air (length (records_of air image n)))) ≡ records_of air image n
all_instances air image n =
    let xs : List StepRecord = records_of air image n in
    let none : 0 * rows_per air ≡ 0 = omega arith in
    cut (rows_per air) xs 0 (instances air (length xs)) ∙ ap (λ k. take (instances air (length xs) * rows_per air) (drop k xs)) none
    ∙ take_whole (instances air (length xs) * rows_per air) xs (rounded (rows_per air) (length xs) (positive air))

-- what planner's laws say of parts and of whole jobs
abbrev pub PartsIn : Type 0
PartsIn = (air : Air) (counts : List Counts) (i : ℕ) → All (IsPartIn counts) (parts air counts i)

abbrev pub WholeMore : Type 0
WholeMore = (air : Air) (counts more : List Counts) → whole air counts ≤ whole air (counts ++ more)

abbrev pub WholeStays : Type 0
WholeStays = (air : Air) (counts more : List Counts) (i : ℕ) → i < whole air counts → job_of air (counts ++ more) i ≡ job_of air counts i

count_chunks : (image : Img) (n : ℕ) → length (counts_to image n) ≡ chunks_of n
count_chunks image n = length-map-range_with_len (λ k. counted (records_in image n k)) 0 (chunks_of n)

chunk_at : (image : Img) (n m k : ℕ) → Later n m → k < chunks_of n → All (IsChunk image) (chunks_to image n) → IsChunk image (chunk_of image m k)
chunk_at image n m k l lt all =
    let inside : k < length (chunks_to image n) = omega (arith, length-map-range_with_len (chunk_of image n) 0 (chunks_of n)) in
    let at : get_or (chunks_to image n) k (chunk_of image n k) ≡ chunk_of image n k = get_or-map-range_with_len (chunk_of image n) 0 (chunks_of n) k k (chunk_of image n k) lt (omega arith) in
    let P : Piece → Type 0 = IsChunk image in
    subst P (at ∙ sym (chunk_later image n m k l lt)) (All-get_or P (chunks_to image n) k (chunk_of image n k) inside all)

each_named : (image : Img) (n m : ℕ) (ps : List Part) → Later n m → All (IsPartIn (counts_to image n)) ps → All (IsChunk image) (chunks_to image n) → All (IsChunk image) (map (λ (p : Part). chunk_of image m p.chunk) ps)
each_named image n m [] l there all = All-nil (IsChunk image)
each_named image n m (p ∷ ps) l there all =
    let P : Part → Type 0 = IsPartIn (counts_to image n) in
    All-cons (IsChunk image) (chunk_of image m p.chunk) (map (λ (q : Part). chunk_of image m q.chunk) ps)
    (chunk_at image n m p.chunk l (omega (arith, (All-head P p ps there).there, count_chunks image n)) all) (each_named image n m ps l (All-tail P p ps there) all)

parts_known : PartsIn → (counts : List Counts) (j : Job) → j ≡ job_of j.air counts j.instance → All (IsPartIn counts) j.parts
parts_known law counts j e = let P : List Part → Type 0 = All (IsPartIn counts) in subst P (sym (ap (λ (i : Job). i.parts) e)) (law j.air counts j.instance)

pub whole_job : PartsIn → WholeMore → WholeStays → (image : Img) (n m : ℕ) (j : Job) → Later n m → All (IsChunk image) (chunks_to image n) → IsWholeIn (counts_to image n) j → IsJobOf image m j (named_by image m j)
whole_job parts_in more stays image n m j l all is =
    let ds : List Counts = drop (chunks_of n) (counts_to image m) in
    let e : counts_to image m ≡ counts_to image n ++ ds = counts_more image n m l in
    record {
      planned = is.named ∙ sym (stays j.air (counts_to image n) ds j.instance is.whole) ∙ ap (λ cs. job_of j.air cs j.instance) (sym e);
      due = inl (subst (λ cs. j.instance < whole j.air cs) (sym e) (let up : whole j.air (counts_to image n) ≤ whole j.air (counts_to image n ++ ds) = more j.air (counts_to image n) ds in omega (arith, is.whole)));
      named = refl;
      each = each_named image n m j.parts l (parts_known parts_in (counts_to image n) j is.named) all;
    }

pub last_job : PartsIn → (image : Img) (n : ℕ) (j : Job) → Halts image n → All (IsChunk image) (chunks_to image n) → IsJobIn (counts_to image n) j → IsJobOf image n j (named_by image n j)
last_job parts_in image n j halts all is = record {
  planned = is.named;
  due = inr (halts, is.some);
  named = refl;
  each = each_named image n n j.parts (inl refl) (parts_known parts_in (counts_to image n) j is.named) all;
}
