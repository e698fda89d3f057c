-- The jobs and tables of tickets, one ticket more and one list after another.
use Rattle.std.proofs.Common.{◌||◌, Bool, true, false, ℕ, sym, ◌∙◌, ◌≡◌, subst, List, [], ◌∷◌, ◌++◌, append-nil, map, refl, ap}
use Rattle.std.specs.Prelude.{OnOk}
use Rattle.std.specs.Result.{is_err}
use Rattle.std.specs.declared.result.Result.{Result}
use Rattle.std.specs.declared.result.Result.TheVariants.{Ok, Err}
use Rattle.std.specs.declared.sync.Arc.{Arc}
use Rattle.std.specs.declared.alloc.Global.{Global}
use Rattle.std.proofs.lemmas.List.{map-append}
use Rattle.min_trace.specs.Chunk.{Piece}
use Rattle.planner.specs.declared.job.Job.{Job}
use Rattle.job_queue.specs.Truth.{IsTrueJob, IsTrueOf}
use Rattle.gold.specs.declared.instances.Table.{Table}
use Rattle.rv_model.specs.Image.{Img}
use Rattle.run_rows.specs.Runs.{Halts, values_of}
use Rattle.run_tables.specs.Sequential.{table_for}
use Rattle.job_queue.specs.declared.ticket.Ticket.{Ticket}
use Rattle.job_queue.specs.declared.ticket.Ticket.TheVariants.{Work, Stop}
use Rattle.wit_pool.specs.Jobs.{jobs_of}
use Rattle.wit_pool.specs.Serving.{AreTables}

pub jobs-append : (xs ys : List Ticket) → jobs_of (xs ++ ys) ≡ jobs_of xs ++ jobs_of ys
jobs-append [] ys = refl
jobs-append (Work job cs ∷ ts) ys = ap (λ l. job ∷ l) (jobs-append ts ys)
jobs-append (Stop ∷ ts) ys = jobs-append ts ys

pub or_false : (a b : Bool) → (a || b) ≡ false → (a ≡ false) × (b ≡ false)
or_false true b e = absurd (cc)
or_false false b e = (refl, e)

-- no tickets have no tables
pub none_made : (image : Img) → AreTables image [] []
unfolding AreTables
none_made image = λ n h. refl

-- the tables of some tickets and then of others
pub made_both : (image : Img) (ts us : List Ticket) (xs ys : List Table) → AreTables image ts xs → AreTables image us ys → AreTables image (ts ++ us) (xs ++ ys)
unfolding AreTables
made_both image ts us xs ys a b = λ n h.
    ap (λ l. l ++ ys) (a n h) ∙ ap (λ l. map (table_for image n) (jobs_of ts) ++ l) (b n h)
    ∙ sym (map-append (table_for image n) (jobs_of ts) (jobs_of us)) ∙ ap (map (table_for image n)) (sym (jobs-append ts us))

-- the tables of one ticket more
pub made_more : (image : Img) (ts : List Ticket) (t : Ticket) (old new : List Table) → AreTables image ts old
    → ((n : ℕ) → Halts image n → new ≡ old ++ map (table_for image n) (jobs_of (t ∷ []))) → AreTables image (ts ++ t ∷ []) new
unfolding AreTables
made_more image ts t old new was is = λ n h.
    is n h ∙ ap (λ l. l ++ map (table_for image n) (jobs_of (t ∷ []))) (was n h)
    ∙ sym (map-append (table_for image n) (jobs_of ts) (jobs_of (t ∷ []))) ∙ ap (map (table_for image n)) (sym (jobs-append ts (t ∷ [])))

-- and where it is a job's
pub made_work : (image i : Img) (ts : List Ticket) (t : Ticket) (job : Job) (chunks : List (Arc Piece Global)) (old new : List Table) → i ≡ image → t ≡ Work job chunks → AreTables image ts old
    → ((n : ℕ) → Halts i n → new ≡ old ++ table_for i n job ∷ []) → AreTables image (ts ++ t ∷ []) new
made_work image i ts t job chunks old new same e was is =
    let here : (n : ℕ) → Halts image n → new ≡ old ++ table_for image n job ∷ [] = subst (λ (x : Img). (n : ℕ) → Halts x n → new ≡ old ++ table_for x n job ∷ []) same is in
    subst (λ (u : Ticket). AreTables image (ts ++ u ∷ []) new) (sym e) (made_more image ts (Work job chunks) old new was here)

-- a stop has no table
pub made_stop : (image : Img) (ts : List Ticket) (tables : List Table) → AreTables image ts tables → AreTables image (ts ++ Stop ∷ []) tables
unfolding AreTables
made_stop image ts tables was = λ n h. was n h ∙ ap (map (table_for image n)) (sym (jobs-append ts (Stop ∷ []) ∙ append-nil (jobs_of ts)))

-- what is known of the work that a ticket is
pub true_work : (image i : Img) (t : Ticket) (job : Job) (chunks cs : List (Arc Piece Global)) → IsTrueOf image t → t ≡ Work job chunks → i ≡ image → cs ≡ chunks → IsTrueJob i job (values_of cs)
unfolding IsTrueOf
true_work image i t job chunks cs h e same all =
    let here : IsTrueJob image job (values_of chunks) = subst (IsTrueOf image) e h in
    subst (λ (x : Img). IsTrueJob x job (values_of cs)) (sym same) (subst (λ (x : List (Arc Piece Global)). IsTrueJob image job (values_of x)) (sym all) here)

-- where no memory was wanting
pub had_memory : {A E : Type 0} (r : Result A E) (X : Type 0) → is_err r ≡ false → OnOk r X → X
had_memory (Ok x) X e h = h
had_memory (Err x) X e h = absurd (cc)
