-- What a step of the queue leaves true of a thread's pass.
use Rattle.std.proofs.Common.{◌≡◌, ℕ, ◌+◌, ◌-◌, false, List, [], ◌∷◌, ◌++◌, refl, sym, ap, ◌∙◌, append-nil, subst, Result, Ok, Err, MatchResult}
use Rattle.std.specs.Prelude.{OnOk, IfErr}
use Rattle.crossbeam_queue.specs.Passes.{Pass, view}
use Rattle.planner.specs.declared.job.Job.{Job}
use Rattle.job_queue.specs.declared.ticket.Ticket.{Ticket}
use Rattle.job_queue.specs.declared.rule.View.{View}
use Rattle.job_queue.specs.declared.queue.JobQueue.{JobQueue}
use Rattle.job_queue.specs.declared.queue.Full.{Full}
use Rattle.job_queue.specs.Rule.{with_pushed, joined, less_one, one_of}
use Rattle.job_queue.specs.Calls.{IsOf, image_of}
use Rattle.wit_pool.specs.declared.hands.Hands.{Hands}
use Rattle.wit_pool.specs.Jobs.{jobs_of}
use Rattle.wit_pool.specs.Serving.{AreTables, IsServing, Serves}
use Rattle.wit_pool.proofs.Results.{jobs-append, made_both, none_made}

-- a pass that pushed one ticket more
pub pushed : (q : JobQueue) (n : ℕ) (js : List Job) (h : Hands) (p : Pass Ticket View) (t : Ticket) → IsServing q n js h → IsOf q p → view p ≡ with_pushed (view h.pass) t → IsServing q n (js ++ jobs_of (t ∷ [])) (record h { pass = p })
pushed q n js h p t s of is = record {
  of = of;
  shares = ap (λ (v : View). v.shares) is ∙ s.shares;
  pushed = ap (λ (v : View). jobs_of v.pushed) is ∙ jobs-append (view h.pass).pushed (t ∷ []) ∙ ap (λ l. l ++ jobs_of (t ∷ [])) s.pushed;
  made = λ long. subst (λ ts. AreTables (image_of q) ts h.done.items) (ap (λ (v : View). v.taken) (sym is)) (s.made long);
}

-- a pass that knows what it knew
pub stayed : (q : JobQueue) (n : ℕ) (js : List Job) (h : Hands) (p : Pass Ticket View) → IsServing q n js h → IsOf q p → view p ≡ view h.pass → IsServing q n js (record h { pass = p })
stayed q n js h p s of is = record {
  of = of;
  shares = ap (λ (v : View). v.shares) is ∙ s.shares;
  pushed = ap (λ (v : View). jobs_of v.pushed) is ∙ s.pushed;
  made = λ long. subst (λ ts. AreTables (image_of q) ts h.done.items) (ap (λ (v : View). v.taken) (sym is)) (s.made long);
}

pub put_out : (q : JobQueue) (n : ℕ) (js : List Job) (h : Hands) (p : Pass Ticket View) (t : Ticket) (r : Result (Unit {0}) Full) → IsServing q n js h → IsOf q p
    → OnOk r (view p ≡ with_pushed (view h.pass) t) → IfErr r (λ (full : Full). (full.0 ≡ t) × (view p ≡ view h.pass))
    → MatchResult r (λ _. IsServing q n (js ++ jobs_of (t ∷ [])) (record h { pass = p })) (λ full. (full.0 ≡ t) × IsServing q n js (record h { pass = p }))
put_out q n js h p t (Ok u) s of done full = pushed q n js h p t s of done
put_out q n js h p t (Err e) s of done full = (full.0, stayed q n js h p s of full.1)

-- a pass that took in another with one share and no pushed job
pub took_in : (q : JobQueue) (n : ℕ) (js : List Job) (a b r : Hands) → IsServing q n js a → IsServing q 1 [] b → IsOf q r.pass → view r.pass ≡ joined (view a.pass) (view b.pass)
    → (r.short ≡ false → (a.short ≡ false) × (b.short ≡ false) × (r.done.items ≡ a.done.items ++ b.done.items)) → IsServing q (n + 1) js r
took_in q n js a b r s t of is long = record {
  of = of;
  shares = ap (λ (v : View). v.shares) is ∙ ap (λ k. k + (view b.pass).shares) s.shares ∙ ap (λ k. n + k) t.shares;
  pushed = ap (λ (v : View). jobs_of v.pushed) is ∙ jobs-append (view a.pass).pushed (view b.pass).pushed ∙ ap (λ l. jobs_of (view a.pass).pushed ++ l) t.pushed ∙ append-nil (jobs_of (view a.pass).pushed) ∙ s.pushed;
  made = λ e.
      let l = long e in
      subst (λ ts. AreTables (image_of q) ts r.done.items) (ap (λ (v : View). v.taken) (sym is))
      (subst (λ x. AreTables (image_of q) ((view a.pass).taken ++ (view b.pass).taken) x) (sym l.2) (made_both (image_of q) (view a.pass).taken (view b.pass).taken a.done.items b.done.items (s.made l.0) (t.made l.1)));
}

-- one share less
pub gave : (q : JobQueue) (n : ℕ) (js : List Job) (h : Hands) (p : Pass Ticket View) → IsServing q n js h → IsOf q p → view p ≡ less_one (view h.pass) → IsServing q (n - 1) js (record h { pass = p })
gave q n js h p s of is = record {
  of = of;
  shares = ap (λ (v : View). v.shares) is ∙ ap (λ k. k - 1) s.shares;
  pushed = ap (λ (v : View). jobs_of v.pushed) is ∙ s.pushed;
  made = λ long. subst (λ ts. AreTables (image_of q) ts h.done.items) (ap (λ (v : View). v.taken) (sym is)) (s.made long);
}

-- and the pass that has it, with nothing made yet
pub fresh : (q : JobQueue) (v : View) (h : Hands) → IsOf q h.pass → view h.pass ≡ one_of v → h.done.items ≡ [] → IsServing q 1 [] h
fresh q v h of is none = record {
  of = of;
  shares = ap (λ (w : View). w.shares) is;
  pushed = ap (λ (w : View). jobs_of w.pushed) is;
  made = λ long.
      subst (λ ts. AreTables (image_of q) ts h.done.items) (ap (λ (w : View). w.taken) (sym is)) (subst (λ x. AreTables (image_of q) [] x) (sym none) (none_made (image_of q)));
}

-- a thread that serves does so by its own numbers
pub serves : (q : JobQueue) (n : ℕ) (js : List Job) (h : Hands) → IsServing q n js h → Serves q h
serves q n js h s = record { of = s.of; shares = refl; pushed = refl; made = s.made }
