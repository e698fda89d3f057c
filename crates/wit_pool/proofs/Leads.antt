-- What holds of the pass that leads.
use Rattle.std.proofs.Common.{◌≡◌, ℕ, ◌+◌, ◌≤◌, List, [], ◌++◌, refl, sym, ap, ◌∙◌, subst, arith, Result, Ok, Err}
use Rattle.std.specs.Prelude.{All, OnOk}
use Rattle.std.specs.declared.sync.Arc.{Arc}
use Rattle.std.specs.declared.alloc.Global.{Global}
use Rattle.rv_model.specs.Image.{Img}
use Rattle.rv_model.specs.Run.{RunsTo, end_within}
use Rattle.rv_model.specs.declared.answer.RunEnd.{RunEnd}
use Rattle.rv_model.specs.declared.answer.RunEnd.TheVariants as ends
use Rattle.rv_model.specs.declared.answer.Public.{Public}
use Rattle.rv_emu.specs.Answered.{Place, Answered, IsWhole}
use Rattle.rv_emu.specs.Answered as emulated
use Rattle.zk_layout.specs.declared.air.Air.{Air}
use Rattle.min_trace.specs.Chunk.{Piece, first_step}
use Rattle.planner.specs.declared.counts.Counts.{Counts}
use Rattle.planner.specs.declared.job.Job.{Job}
use Rattle.planner.specs.Jobs.{handed, finished, jobs, whole, all_jobs, of_air, IsJobIn, IsWholeIn}
use Rattle.run_rows.specs.Runs.{counts_to}
use Rattle.wit_pool.specs.declared.progress.Progress.{Progress}
use Rattle.wit_pool.specs.Progress.{HasChunks, IsAt, IsBorder, IsReady}
use Rattle.job_queue.specs.Calls.{image_of}
use Rattle.job_queue.specs.declared.queue.JobQueue.{JobQueue}
use Rattle.wit_pool.specs.declared.hands.Hands.{Hands}
use Rattle.wit_pool.specs.declared.lead.Whole.{Whole}
use Rattle.wit_pool.specs.Serving.{IsServing, pushed_of}
use Rattle.wit_pool.specs.Planned.{AreAllJobs, AreWholeJobs, chunk_start}
use Rattle.wit_pool.specs.Led.{IsRunning, HasLed, Leads, handed_to}
use Rattle.wit_pool.proofs.Tickets.{WholeJobs, LastJobs, all_ready, all_last}

pub on_ok : {A E X Y : Type 0} (r : Result A E) → (X → Y) → OnOk r X → OnOk r Y
on_ok (Ok a) f h = f h
on_ok (Err e) f h = tt

-- the jobs that a chunk made whole are ready to be pushed
pub added_ready : WholeJobs → (image i : Img) (n : ℕ) (all : List (Arc Piece Global)) (js : List Job) → i ≡ image → IsBorder image n → HasChunks i n all → All (IsWholeIn (counts_to i n)) js
    → (x : ℕ) × HasChunks image x all × All (IsReady image x) js
added_ready law image i n all js e border has whole =
    let here : HasChunks image n all = subst (λ (k : Img). HasChunks k n all) e has in
    (n, here, all_ready law image n all js border here (subst (λ (k : Img). All (IsWholeIn (counts_to k n)) js) e whole))

-- what a pass pushed with them
pub handed_more : (image i : Img) (n m : ℕ) (before after js : List Job) → i ≡ image → before ≡ handed_to image n → handed [] (counts_to i m) ≡ handed [] (counts_to i n) ++ js → after ≡ before ++ js → after ≡ handed_to image m
unfolding handed_to
handed_more image i n m before after js e was more is =
    is ∙ ap (λ xs. xs ++ js) was ∙ sym (subst (λ (k : Img). handed [] (counts_to k m) ≡ handed [] (counts_to k n) ++ js) e more)

-- and those that are left at the end
pub last_ready : LastJobs → ((counts : List Counts) → All (IsJobIn counts) (finished counts)) → (image : Img) (n : ℕ) (public : Public) (p : Progress) (all : List (Arc Piece Global)) (js : List Job) → RunsTo image n public → IsAt image n p
    → js ≡ finished p.plan → all ≡ p.chunks.items → (x : ℕ) × HasChunks image x all × All (IsReady image x) js
last_ready law left_law image n public p all js runs at e same =
    let has : HasChunks image n all = subst (HasChunks image n) (sym same) at.chunks in
    let left : js ≡ finished (counts_to image n) = e ∙ ap finished at.plan in
    (n, has, all_last law image n all js (public, runs) has (subst (All (IsJobIn (counts_to image n))) (sym left) (left_law (counts_to image n))))

-- a run of which nothing is made yet
pub begun : (image i : Img) (limit : ℕ) (emu : Place) (p : Progress) → emu ≡ record { image = image; limit = limit; number = 0 } → i ≡ image → IsAt i 0 p → IsRunning image limit (record { emu = emu; progress = p })
begun image i limit emu p e same at =
    let none : first_step emu.number ≡ 0 = ap (λ (x : Place). first_step x.number) e in
    record {
      same = ap (λ (x : Place). x.image) e;
      most = ap (λ (x : Place). x.limit) e;
      within = omega arith;
      progress = subst (λ k. IsAt image k p) (sym none) (subst (λ (k : Img). IsAt k 0 p) same at);
    }

-- all jobs that are handed out are all jobs, each once
pub are_all : ((air : Air) (counts : List Counts) → of_air air (handed [] counts ++ finished counts) ≡ all_jobs air counts) → (image : Img) (n : ℕ) (js : List Job) → js ≡ handed_to image n ++ finished (counts_to image n) → AreAllJobs image n js
unfolding handed_to AreAllJobs
are_all law image n js is = λ air. ap (of_air air) is ∙ law air (counts_to image n)

-- and those of whole chunks
pub are_whole : ((air : Air) (counts : List Counts) → of_air air (handed [] counts) ≡ jobs air counts 0 (whole air counts)) → (image : Img) (n : ℕ) (js : List Job) → js ≡ handed_to image n → AreWholeJobs image n js
unfolding handed_to AreWholeJobs
are_whole law image n js is = λ air. ap (of_air air) is ∙ law air (counts_to image n)

-- after a chunk that leads on
pub record IsOn (q : JobQueue) (limit n : ℕ) (emu : Place) (p : Progress) (h : Hands) : Type 0 where
  pub same : emu.image ≡ image_of q
  pub most : emu.limit ≡ limit
  pub within : first_step emu.number ≤ emu.limit
  pub progress : IsAt (image_of q) (first_step emu.number) p
  pub serving : IsServing q n (handed_to (image_of q) (first_step emu.number)) h

served : (q : JobQueue) (n m : ℕ) (js : List Job) (h : Hands) → n ≡ m → pushed_of h ≡ js → IsServing q n (pushed_of h) h → IsServing q m js h
served q n m js h e is s = record { of = s.of; shares = s.shares ∙ e; pushed = is; made = s.made }

pub stepped : (q : JobQueue) (limit n m : ℕ) (old new : Place) (c : Piece) (p : Progress) (h : Hands) → old.image ≡ image_of q → old.limit ≡ limit → IsWhole old c
    → new ≡ record { image = old.image; limit = old.limit; number = old.number + 1 } → n ≡ m → IsAt (image_of q) (first_step c.number + c.steps) p → IsServing q n (pushed_of h) h
    → pushed_of h ≡ handed_to (image_of q) (first_step c.number + c.steps) → IsOn q limit m new p h
stepped q limit n m old new c p h same most whole is e at serving pushed =
    let number : new.number ≡ old.number + 1 = ap (λ (x : Place). x.number) is in
    let bound : new.limit ≡ old.limit = ap (λ (x : Place). x.limit) is in
    let within : first_step (old.number + 1) ≤ old.limit = whole.within in
    let steps = whole.steps in
    let first = whole.number in
    let next : first_step c.number + c.steps ≡ first_step new.number = omega arith in
    record {
      same = ap (λ (x : Place). x.image) is ∙ same;
      most = bound ∙ most;
      within = omega arith;
      progress = subst (λ k. IsAt (image_of q) k p) next at;
      serving = served q n m (handed_to (image_of q) (first_step new.number)) h e (subst (λ k. pushed_of h ≡ handed_to (image_of q) k) next pushed) serving;
    }

abbrev pub WholeOnce : Type 0
WholeOnce = (air : Air) (counts : List Counts) → of_air air (handed [] counts) ≡ jobs air counts 0 (whole air counts)

-- the run ended otherwise than by a halt
pub ended : WholeOnce → (old new : Place) (end : RunEnd) (js : List Job) → first_step old.number ≤ old.limit → Answered (Err end) old new → emulated.EndsBy (Err end) old.limit (end_within old.image old.limit)
    → js ≡ handed_to old.image (first_step old.number) → Leads old.image old.limit (Err end) js
ended law old new (ends.Fault fault) js within answered is pushed =
    let f = answered.0 in
    let low = f.low in
    let high = f.high in
    let here : first_step old.number ≡ chunk_start f.step = omega arith in
    (is, (f.step, f.faults, subst (λ k. AreWholeJobs old.image k js) here (are_whole law old.image (first_step old.number) js pushed)))
ended law old new (ends.StepLimit most) js within answered is pushed =
    let u = answered.1 in
    let high = u.high in
    let here : first_step old.number ≡ chunk_start old.limit = omega arith in
    (is, subst (λ k. AreWholeJobs old.image k js) here (are_whole law old.image (first_step old.number) js pushed))
ended law old new ends.NoMemory js within answered is pushed = (tt, tt)

pub led_err : WholeOnce → (q : JobQueue) (limit n : ℕ) (old new : Place) (end : RunEnd) (h : Hands) → old.image ≡ image_of q → old.limit ≡ limit → first_step old.number ≤ old.limit → Answered (Err end) old new
    → emulated.EndsBy (Err end) old.limit (end_within old.image old.limit) → IsServing q n (handed_to (image_of q) (first_step old.number)) h → HasLed q limit n (Err end) h
led_err law q limit n old new end h same most within answered is s =
    let pushed : pushed_of h ≡ handed_to old.image (first_step old.number) = subst (λ (i : Img). pushed_of h ≡ handed_to i (first_step old.number)) (sym same) s.pushed in
    let led : Leads old.image old.limit (Err end) (pushed_of h) = ended law old new end (pushed_of h) within answered is pushed in
    record {
      serving = record { of = s.of; shares = s.shares; pushed = refl; made = s.made };
      led = subst (λ (i : Img). Leads i limit (Err end) (pushed_of h)) same (subst (λ k. Leads old.image k (Err end) (pushed_of h)) most led);
    }

-- it led, and then pushed no more jobs
pub led_on : (q : JobQueue) (limit n : ℕ) (answer : Result Whole RunEnd) (h r : Hands) → HasLed q limit n answer h → IsServing q n (pushed_of h) r → HasLed q limit n answer r
led_on q limit n answer h r l s = record {
  serving = record { of = s.of; shares = s.shares; pushed = refl; made = s.made };
  led = subst (Leads (image_of q) limit answer) (sym s.pushed) l.led;
}
