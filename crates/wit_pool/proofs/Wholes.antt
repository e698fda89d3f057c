-- The whole call: how it begins and what it makes.
use Rattle.std.proofs.Common.{◌≡◌, ℕ, ◌≤◌, false, List, [], vec_len, refl, sym, ap, ◌∙◌, subst, arith}
use Rattle.std.specs.Prelude.{All}
use Rattle.std.specs.Global.{Vec}
use Rattle.crossbeam_queue.specs.Passes.{view}
use Rattle.rv_model.specs.Image.{Img}
use Rattle.rv_model.specs.Run.{end_within, Halted}
use Rattle.rv_model.specs.declared.answer.Public.{Public}
use Rattle.min_trace.specs.Chunk.{first_step}
use Rattle.mem_rows.specs.Rows.{mem_tables}
use Rattle.planner.specs.declared.job.Job.{Job}
use Rattle.run_tables.specs.declared.made.Made.{Made}
use Rattle.run_tables.specs.Sequential.{sequential_witness}
use Rattle.job_queue.specs.declared.queue.JobQueue.{JobQueue}
use Rattle.job_queue.specs.declared.rule.View.{View}
use Rattle.job_queue.specs.Calls.{IsOf, image_of, shares_of}
use Rattle.job_queue.specs.Rule.{whole, HaveSameTickets}
use Rattle.wit_pool.specs.declared.hands.Hands.{Hands}
use Rattle.wit_pool.specs.declared.lead.Run.{Run}
use Rattle.wit_pool.specs.declared.lead.Whole.{Whole}
use Rattle.wit_pool.specs.Crew.{IsWorker, IsCrew}
use Rattle.wit_pool.specs.Jobs.{jobs_of}
use Rattle.wit_pool.specs.Led.{IsRunning, IsWhole, handed_to}
use Rattle.wit_pool.specs.Placed.{AreMade}
use Rattle.wit_pool.specs.Planned.{AreAllJobs}
use Rattle.wit_pool.specs.Progress.{IsAt}
use Rattle.wit_pool.specs.Serving.{AreTables, IsServing, Serves}
use Rattle.wit_pool.proofs.Results.{none_made}
use Rattle.wit_pool.proofs.Places.{all_taken}

-- the caller's pass, which did nothing yet
pub begins : (q : JobQueue) (h : Hands) → IsOf q h.pass → view h.pass ≡ whole (image_of q) (shares_of q) → h.done.items ≡ [] → Serves q h
begins q h of is none = record {
  of = of;
  shares = refl;
  pushed = refl;
  made = λ long.
      subst (λ ts. AreTables (image_of q) ts h.done.items) (ap (λ (v : View). v.taken) (sym is)) (subst (λ xs. AreTables (image_of q) [] xs) (sym none) (none_made (image_of q)));
}

none_handed : (image : Img) (n : ℕ) → n ≡ 0 → handed_to image n ≡ []
unfolding handed_to
none_handed image n e = ap (handed_to image) e

-- the threads before the first of them is started
pub crew_ready : (q : JobQueue) (image : Img) (limit workers k : ℕ) (run : Run) (mine : Hands) (waiting : Vec Hands) (js : List Job) → IsRunning image limit run → run.emu.number ≡ 0 → image ≡ image_of q → js ≡ [] → IsServing q k js mine
    → All (IsWorker q) waiting.items → vec_len waiting ≡ workers → workers ≤ 64 → IsCrew q run (record { mine = mine; waiting = waiting; started = 0 })
crew_ready q image limit workers k run mine waiting js r zero same none s each many few =
    let most = r.most in
    let within = r.within in
    let first : first_step run.emu.number ≡ 0 = ap first_step zero in
    record {
      running = record {
        same = r.same ∙ same;
        most = refl;
        within = omega arith;
        progress = subst (λ (i : Img). IsAt i (first_step run.emu.number) run.progress) same r.progress;
      };
      mine = record {
        of = s.of;
        shares = refl;
        pushed = s.pushed ∙ none ∙ sym (none_handed (image_of q) (first_step run.emu.number) first);
        made = s.made;
      };
      waiting = each;
      few = omega arith;
    }

-- where the run halted, all that was pushed was taken and memory sufficed, the tables are the sequential ones
pub makes : (q : JobQueue) (image : Img) (limit l n : ℕ) (w : Whole) (h : Hands) (js : List Job) (made : Made) → image ≡ image_of q → l ≡ limit → IsWhole (image_of q) l w js → IsServing q n js h
    → HaveSameTickets (view h.pass).pushed (view h.pass).taken → h.short ≡ false → (made.steps ≡ w.steps) × (made.public ≡ w.public)
    → ((i : Img) → AreMade i w.steps h.done.items → w.mem.items ≡ mem_tables i w.steps w.public → made.witness ≡ sequential_witness i w.steps w.public)
    → (end_within image limit ≡ Halted made.steps made.public) × (made.witness ≡ sequential_witness image made.steps made.public)
unfolding AreTables
makes q image limit l n w h js made same most run s tickets long is witness =
    let i = image_of q in
    let all : AreAllJobs i w.steps (jobs_of (view h.pass).pushed) = subst (AreAllJobs i w.steps) (sym s.pushed) run.jobs in
    let tables = s.made long w.steps (w.public, run.halts) in
    let are : AreMade i w.steps h.done.items = (jobs_of (view h.pass).taken, tables, all_taken i w.steps (view h.pass).pushed (view h.pass).taken tickets all) in
    let here : made.witness ≡ sequential_witness i made.steps made.public =
    witness i are run.mem ∙ ap (λ k. sequential_witness i k w.public) (sym is.0) ∙ ap (λ (p : Public). sequential_witness i made.steps p) (sym is.1) in
    let ends : end_within i limit ≡ Halted made.steps made.public =
    ap (end_within i) (sym most) ∙ run.ends ∙ ap (λ k. Halted k w.public) (sym is.0) ∙ ap (λ (p : Public). Halted made.steps p) (sym is.1) in
    (ap (λ (x : Img). end_within x limit) same ∙ ends, here ∙ ap (λ (x : Img). sequential_witness x made.steps made.public) (sym same))
