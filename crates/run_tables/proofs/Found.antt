-- The chunks that parts name.
use Rattle.std.proofs.Common.{◌≡◌, ◌+◌, ◌<◌, ℕ, List, [], ◌∷◌, ◌++◌, length, get_or, take, map, refl, ap, sym, ◌∙◌, subst, arith}
use Rattle.std.specs.Prelude.{All}
use Rattle.std.specs.List.{range_with_len}
use Rattle.std.specs.Arc.{arc_value}
use Rattle.std.specs.declared.sync.Arc.{Arc}
use Rattle.std.specs.declared.alloc.Global.{Global}
use Rattle.std.proofs.lemmas.List.{get_or-map, length-map, map_push, map_more}
use Rattle.std.proofs.lemmas.List.Elements.{All-get_or, All-head, All-tail, All-nil, All-cons}
use Rattle.std.proofs.lemmas.List.FromFn.{get_or-map-range_with_len, length-map-range_with_len}
use Rattle.rv_model.specs.Image.{Img}
use Rattle.zk_layout.specs.declared.air.Air.{Air}
use Rattle.min_trace.specs.Chunk.{Piece}
use Rattle.planner.specs.declared.counts.Counts.{Counts}
use Rattle.planner.specs.declared.job.Job.{Job}
use Rattle.planner.specs.declared.job.Part.{Part}
use Rattle.planner.specs.Rows.{counted}
use Rattle.planner.specs.Jobs.{parts, job_of, IsPartIn}
use Rattle.run_rows.specs.Runs.{Later, chunks_of, records_in, chunk_of, chunks_to, counts_to, values_of, named_by}
use Rattle.run_tables.specs.Sequential.{IsPlanned}

abbrev Shared : Type 0
Shared = Arc Piece Global

pub inside : (ps : List Part) (i n : ℕ) (q : Part) → i < length ps → All (λ (p : Part). p.chunk < n) ps → (get_or ps i q).chunk < n
inside ps i n q lt h = All-get_or (λ (p : Part). p.chunk < n) ps i q lt h

-- one chunk more is found
pub found_more : (chunks found more : List Shared) (ps : List Part) (i : ℕ) (q : Part) (c d : Shared) (f : ℕ → Piece) → i < length ps → (get_or ps i q).chunk < length chunks → c ≡ get_or chunks (get_or ps i q).chunk c → arc_value d ≡ arc_value c
    → more ≡ found ++ d ∷ [] → values_of chunks ≡ map f (range_with_len 0 (length chunks)) → values_of found ≡ map (λ (p : Part). f p.chunk) (take i ps) → values_of more ≡ map (λ (p : Part). f p.chunk) (take (i + 1) ps)
found_more chunks found more ps i q c d f lt in' at is m known h =
    let v : Shared → Piece = λ x. arc_value x in
    let one : v d ≡ f (get_or ps i q).chunk =
    is ∙ ap v at ∙ sym (get_or-map v chunks (get_or ps i q).chunk c (v c) in') ∙ ap (λ xs. get_or xs (get_or ps i q).chunk (v c)) known ∙ get_or-map-range_with_len f 0 (length chunks) (get_or ps i q).chunk (get_or ps i q).chunk (v c) in' (omega arith) in
    ap values_of m ∙ map_push v found d ∙ ap (λ xs. xs ++ v d ∷ []) h ∙ ap (λ x. map (λ (p : Part). f p.chunk) (take i ps) ++ x ∷ []) one ∙ sym (map_more (λ (p : Part). f p.chunk) ps i q lt)

-- what planner's and run_rows' laws say
abbrev pub PartsIn : Type 0
PartsIn = (air : Air) (counts : List Counts) (i : ℕ) → All (IsPartIn counts) (parts air counts i)

abbrev pub ChunksStay : Type 0
ChunksStay = (image : Img) (n m k : ℕ) → Later n m → k < chunks_of n → chunk_of image m k ≡ chunk_of image n k

long_chunks : (image : Img) (n : ℕ) (chunks : List Shared) → values_of chunks ≡ chunks_to image n → length chunks ≡ chunks_of n
long_chunks image n chunks e = sym (length-map chunks (λ (x : Shared). arc_value x)) ∙ ap (length {A = Piece}) e ∙ length-map-range_with_len (chunk_of image n) 0 (chunks_of n)

long_counts : (image : Img) (n : ℕ) → length (counts_to image n) ≡ chunks_of n
long_counts image n = length-map-range_with_len (λ k. counted (records_in image n k)) 0 (chunks_of n)

there : (counts : List Counts) (n : ℕ) (ps : List Part) → length counts ≡ n → All (IsPartIn counts) ps → All (λ (p : Part). p.chunk < n) ps
there counts n [] e h = All-nil (λ (p : Part). p.chunk < n)
there counts n (p ∷ ps) e h =
    let one : IsPartIn counts p = All-head (IsPartIn counts) p ps h in
    let lt : p.chunk < n = omega (arith, one.there) in
    All-cons (λ (q : Part). q.chunk < n) p ps lt (there counts n ps e (All-tail (IsPartIn counts) p ps h))

below : PartsIn → (image : Img) (n : ℕ) (job : Job) → job ≡ job_of job.air (counts_to image n) job.instance → All (λ (p : Part). p.chunk < chunks_of n) job.parts
below law image n job e =
    let P : List Part → Type 0 = All (IsPartIn (counts_to image n)) in
    there (counts_to image n) (chunks_of n) job.parts (long_counts image n) (subst P (sym (ap (λ (j : Job). j.parts) e)) (law job.air (counts_to image n) job.instance))

pub parts_inside : PartsIn → (image : Img) (n : ℕ) (job : Job) (chunks : List Shared) (ps : List Part) → ps ≡ job.parts → IsPlanned image n (values_of chunks) job → All (λ (p : Part). p.chunk < length chunks) ps
parts_inside law image n job chunks ps e plan =
    let P : List Part → Type 0 = All (λ (p : Part). p.chunk < length chunks) in
    let Q : ℕ → Type 0 = λ k. All (λ (p : Part). p.chunk < k) job.parts in
    subst P (sym e) (subst Q (sym (long_chunks image n chunks plan.run)) (below law image n job plan.planned))

same : ChunksStay → (image : Img) (n m : ℕ) (ps : List Part) → Later n m → All (λ (p : Part). p.chunk < chunks_of n) ps → map (λ (p : Part). chunk_of image n p.chunk) ps ≡ map (λ (p : Part). chunk_of image m p.chunk) ps
same law image n m [] l h = refl
same law image n m (p ∷ ps) l h =
    let lt : p.chunk < chunks_of n = All-head (λ (q : Part). q.chunk < chunks_of n) p ps h in
    ap (λ x. x ∷ map (λ (q : Part). chunk_of image n q.chunk) ps) (sym (law image n m p.chunk l lt)) ∙ ap (λ xs. chunk_of image m p.chunk ∷ xs) (same law image n m ps l (All-tail (λ (q : Part). q.chunk < chunks_of n) p ps h))

pub named_later : PartsIn → ChunksStay → (image : Img) (n m : ℕ) (job : Job) (chunks found : List Shared) (ps : List Part) → ps ≡ job.parts
    → ((f : ℕ → Piece) → values_of chunks ≡ map f (range_with_len 0 (length chunks)) → values_of found ≡ map (λ (p : Part). f p.chunk) ps) → IsPlanned image n (values_of chunks) job → Later n m → values_of found ≡ named_by image m job
named_later inside stays image n m job chunks found ps e h plan l =
    let known : values_of chunks ≡ map (chunk_of image n) (range_with_len 0 (length chunks)) = plan.run ∙ ap (λ k. map (chunk_of image n) (range_with_len 0 k)) (sym (long_chunks image n chunks plan.run)) in
    h (chunk_of image n) known ∙ ap (map (λ (p : Part). chunk_of image n p.chunk)) e ∙ same stays image n m job.parts l (below inside image n job plan.planned)
