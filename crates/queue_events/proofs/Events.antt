-- Each step of the queue is an event of the core.
use Rattle.std.proofs.Common.{◌≡◌, ◌≢◌, ℕ, ◌<◌, ◌^◌, Bool, true, false, not, if◌then◌else◌, nat_le, ◌==◌, Option, Some, None, List, [], ◌∷◌, ◌++◌, length, set, take, drop, refl, sym, ap, subst, ◌∙◌, arith, length-append}
use Rattle.std.specs.Prelude.{sum_by, slice_get}
use Rattle.std.specs.Option.{option_map}
use Rattle.std.proofs.lemmas.Option.{none-some}
use Rattle.std.proofs.lemmas.List.{length-set, length-map, map-append}
use Rattle.std.proofs.lemmas.List.Sums.{sum_by-append, sum_by_push}
use Rattle.std.proofs.lemmas.Bool.Decides.{nat_tests}
use mathlib.Core.Option.{some}
use lib.ListN.{get_elem?}
use Rattle.crossbeam_queue.proofs.Lists.{set_else, set_here, set_again, at_longer, at_last}
use Rattle.job_queue.specs.Rule.{whole, blank, spent, with_pushed, with_taken, less_one, one_of, joined}
use Rattle.job_queue.specs.declared.rule.View.{View}
use Rattle.job_queue.specs.declared.ticket.Ticket.{Ticket}
use Rattle.pipe_core.specs.declared.event.CoreTicket.{CoreTicket}
use Rattle.pipe_core.specs.declared.event.CoreTicket.TheVariants as core
use Rattle.pipe_core.specs.declared.event.Event.{Event}
use Rattle.pipe_core.specs.declared.event.Event.TheVariants.{Pop, Keep, Split, Join}
use Rattle.pipe_core.specs.declared.event.EventErr.{EventErr}
use Rattle.pipe_core.specs.declared.event.EventErr.TheVariants.{NoPass, Full, Empty, Holds, HoldsNone, LastPass}
use Rattle.pipe_core.specs.Pipe.{Holding, Pipe, new_pass, pass_at, is_none_there, is_gone, holds_work, has_work, job_of, held_job, is_work, kept_by, kept_in}
use Rattle.pipe_core.specs.Events.{first_refusal, refusal, changed, after, step, run}
use Rattle.pipe_core.specs.Sound.{jobs_among, jobs_with, HaveSameJobs}
use Rattle.queue_events.specs.Stands.{core_ticket, core_tickets, all_taken, StandsForPass, StandsFor}
use Rattle.queue_events.specs.Laws.{IsViewAt, Leads, PushLaw, PopLaw, SplitLaw, JoinLaw, KeepLaw, BeginLaw, BalanceLaw}
use Rattle.queue_events.proofs.Weights.{total-set, total_push, tickets_push, tickets-append, jobs_push, jobs-append}
use Rattle.queue_events.proofs.Passes.{IsThere, is_there, not_gone, at_within, stand_view, stand-set, stand_push, changed_here, stand_changed, last_of, set_last}

abbrev pushes : View → List CoreTicket
pushes v = core_tickets v.pushed

abbrev takes : View → List CoreTicket
takes v = core_tickets v.taken

-- a test that fails, before the others
skip : (b : Bool) (r : EventErr) (next : Option EventErr) → b ≡ false → (if b then Some r else next) ≡ next
skip true r next e = absurd (cc)
skip false r next e = refl

-- an event that is done leaves what it leaves
pub done : (p : Pipe) (e : Event) → refusal p e ≡ None → step p e ≡ after p e
done p e none = ap (λ r. elim r as (λ x. Pipe) [ None ↦ after p e | Some y ↦ p ]) none

there : (capacity : ℕ) (items : List Ticket) (views : List View) (p : Pipe) (n : ℕ) (v : View) → StandsFor capacity items views p → IsViewAt views n v → IsThere v (pass_at p n)
there capacity items views p n v s is = is_there v (pass_at p n) (s.passes n v is.0) is.1

-- a view with the same taken list stands for the same pass
same_pass : (v w : View) (o : Option Holding) → IsThere v o → w.taken ≡ v.taken → 0 < w.shares → StandsForPass w o
same_pass v w o h same has = subst (StandsForPass w) (sym h.1) (has, λ weight. h.2 weight ∙ ap (λ ts. sum_by weight (jobs_among (core_tickets ts))) (sym same))

pub pushed : PushLaw
pushed capacity n items views v t p s is room =
    let w = with_pushed v t in
    let h = there capacity items views p n v s is in
    let here = not_gone (pass_at p n) h.0 h.1 in
    let long : length p.queued ≡ length items = ap length s.queued ∙ length-map items core_ticket in
    let most = s.room in
    let free : nat_le p.capacity (length p.queued) ≡ false = grind (arith, nat_tests) in (
      skip (is_gone p n) (NoPass n) _ here ∙ skip (nat_le p.capacity (length p.queued)) Full None free,
      record {
        room = s.room;
        queued = ap (λ l. l ++ core_ticket t ∷ []) s.queued ∙ sym (map-append core_ticket items (t ∷ []));
        pushed = λ weight.
            let a = s.pushed weight in
            let b = total-set weight pushes views n v w is.0 in
            omega (arith, sum_by_push weight p.pushed (core_ticket t), tickets_push weight v.pushed t);
        popped = λ weight. let a = s.popped weight in let b = total-set weight takes views n v w is.0 in omega arith;
        count = s.count ∙ sym (length-set views n w);
        passes = stand_view views p.passes n w s.passes (same_pass v w (pass_at p n) h refl is.1);
      },
    )

-- what a pass holds and keeps, once it has kept what it held
abbrev at_rest : Holding → Holding
at_rest h = record { held = None; kept = h.kept ++ held_job h.held }

rest_stands : (v : View) (o : Option Holding) → StandsForPass v o → StandsForPass v (option_map at_rest o)
rest_stands v None is = is
rest_stands v (Some h) is = (is.0, λ weight. let a = is.1 weight in omega (arith, sum_by-append weight h.kept (held_job h.held), sum_by-append weight (held_job h.held) h.kept))

pub keeps : KeepLaw
keeps capacity n items views p s = go (refusal p (Keep n)) where
  go : (r : Option EventErr) → StandsFor capacity items views (elim r as (λ x. Pipe) [ None ↦ after p (Keep n) | Some y ↦ p ])
  go None = record {
    room = s.room;
    queued = s.queued;
    pushed = s.pushed;
    popped = s.popped;
    count = length-set p.passes n (option_map at_rest (pass_at p n)) ∙ s.count;
    passes = stand_changed at_rest views p.passes n rest_stands s.passes;
  }
  go (Some y) = s

idle : (o : Option Holding) → holds_work (option_map at_rest o) ≡ false
idle None = refl
idle (Some h) = refl

not_work : (b : Bool) (x r : EventErr) → (if not b then Some x else None) ≡ Some r → b ≡ false
not_work true x r e = absurd (none-some r e)
not_work false x r e = refl

refused_keep : (n : ℕ) (o : Option Holding) (r : EventErr) → first_refusal ((is_none_there o, NoPass n) ∷ (not (holds_work o), HoldsNone n) ∷ []) ≡ Some r → holds_work o ≡ false
refused_keep n None r e = refl
refused_keep n (Some h) r e = not_work (is_work h.held) (HoldsNone n) r e

-- after a Keep, done or refused, the pass holds no work
rested : (p : Pipe) (n : ℕ) → has_work (step p (Keep n)) n ≡ false
rested p n = go (refusal p (Keep n)) refl where
  go : (r : Option EventErr) → refusal p (Keep n) ≡ r → has_work (elim r as (λ x. Pipe) [ None ↦ after p (Keep n) | Some y ↦ p ]) n ≡ false
  go None e = ap holds_work (changed_here at_rest p.passes n) ∙ idle (pass_at p n)
  go (Some y) e = refused_keep n (pass_at p n) y e

no_job : (o : Option CoreTicket) → is_work o ≡ false → held_job o ≡ []
no_job None e = refl
no_job (Some (core.Work j)) e = absurd (cc)
no_job (Some core.Stop) e = refl

-- what a pass without work keeps is what its view took
keeps_all : (p : Pipe) (n : ℕ) (v : View) (h : IsThere v (pass_at p n)) → has_work p n ≡ false → HaveSameJobs h.0.kept (jobs_among (core_tickets v.taken))
keeps_all p n v h free weight =
    let none : held_job h.0.held ≡ [] = no_job h.0.held (ap holds_work (sym h.1) ∙ free) in
    sym (ap (λ l. sum_by weight (l ++ h.0.kept)) none) ∙ h.2 weight

popped_at : (capacity n : ℕ) (items : List Ticket) (views : List View) (v : View) (t : Ticket) (p : Pipe) → StandsFor capacity (t ∷ items) views p → IsViewAt views n v → has_work p n ≡ false
    → Leads p (Pop n) capacity items (set views n (with_taken v t))
popped_at capacity n items views v t p s is free =
    let w = with_taken v t in
    let h = there capacity (t ∷ items) views p n v s is in
    let here = not_gone (pass_at p n) h.0 h.1 in
    let long : length p.queued ≡ length (core_ticket t ∷ core_tickets items) = ap length s.queued in
    let some_queued : (length p.queued == 0) ≡ false = grind (arith, nat_tests) in
    let f = λ (x : Holding). record x { held = slice_get p.queued 0 } in
    let front : slice_get p.queued 0 ≡ Some (core_ticket t) = ap (λ l. slice_get l 0) s.queued in
    let now : HaveSameJobs (jobs_with (Some (f h.0))) (jobs_among (core_tickets w.taken)) = λ weight.
    let a = keeps_all p n v h free weight in
    let b : sum_by weight (held_job (slice_get p.queued 0)) ≡ sum_by weight (job_of (core_ticket t)) = ap (λ o. sum_by weight (held_job o)) front in
    omega (arith, sum_by-append weight (held_job (slice_get p.queued 0)) h.0.kept, jobs_push weight v.taken t) in
    let within = at_within views n v is.0 in
    let count = s.count in (
      skip (is_gone p n) (NoPass n) _ here ∙ skip (length p.queued == 0) Empty _ some_queued ∙ skip (has_work p n) (Holds n) None free,
      record {
        room = s.room;
        queued = ap (drop 1) s.queued;
        pushed = λ weight. let a = s.pushed weight in let b = total-set weight pushes views n v w is.0 in omega arith;
        popped = λ weight.
            let a = s.popped weight in
            let b = total-set weight takes views n v w is.0 in
            let c : sum_by weight (p.popped ++ take 1 p.queued) ≡ sum_by weight (p.popped ++ core_ticket t ∷ []) = ap (λ l. sum_by weight (p.popped ++ take 1 l)) s.queued in
            omega (arith, sum_by_push weight p.popped (core_ticket t), tickets_push weight v.taken t);
        count = length-set p.passes n (option_map f (pass_at p n)) ∙ s.count ∙ sym (length-set views n w);
        passes = stand-set views p.passes n w (option_map f (pass_at p n)) s.passes (omega arith) (subst (λ o. StandsForPass w (option_map f o)) (sym h.1) (is.1, now));
      },
    )

pub popped : PopLaw
popped capacity n items views v t p s is =
    popped_at capacity n items views v t (step p (Keep n)) (keeps capacity n (t ∷ items) views p s) is (rested p n)

-- a split that leaves one view of a pass as it was and makes another without tickets
split_into : (capacity n : ℕ) (items : List Ticket) (views : List View) (v a b : View) (p : Pipe) → StandsFor capacity items views p → IsViewAt views n v → length views < 2 ^ 32
    → (a.pushed ≡ v.pushed) × (a.taken ≡ v.taken) × (0 < a.shares) → (b.pushed ≡ []) × (b.taken ≡ []) × (0 < b.shares)
    → Leads p (Split n) capacity items (set views n a ++ b ∷ [])
split_into capacity n items views v a b p s is few same none =
    let h = there capacity items views p n v s is in
    let here = not_gone (pass_at p n) h.0 h.1 in
    let count = s.count in
    let may : nat_le (2 ^ 32) (length p.passes) ≡ false = grind (arith, nat_tests) in
    let one : StandsForPass b (Some new_pass) = (none.2, λ weight. ap (λ ts. sum_by weight (jobs_among (core_tickets ts))) (sym none.1)) in (
      skip (is_gone p n) (NoPass n) _ here ∙ skip (nat_le (2 ^ 32) (length p.passes)) LastPass None may,
      record {
        room = s.room;
        queued = s.queued;
        pushed = λ weight.
            let x = s.pushed weight in
            let y = total-set weight pushes views n v a is.0 in
            let z : sum_by weight (pushes a) ≡ sum_by weight (pushes v) = ap (λ ts. sum_by weight (core_tickets ts)) same.0 in
            let e : sum_by weight (pushes b) ≡ 0 = ap (λ ts. sum_by weight (core_tickets ts)) none.0 in
            omega (arith, total_push weight pushes (set views n a) b);
        popped = λ weight.
            let x = s.popped weight in
            let y = total-set weight takes views n v a is.0 in
            let z : sum_by weight (takes a) ≡ sum_by weight (takes v) = ap (λ ts. sum_by weight (core_tickets ts)) same.1 in
            let e : sum_by weight (takes b) ≡ 0 = ap (λ ts. sum_by weight (core_tickets ts)) none.1 in
            omega (arith, total_push weight takes (set views n a) b);
        count = let l = length-set views n a in omega (arith, length-append p.passes (Some new_pass ∷ []), length-append (set views n a) (b ∷ []));
        passes = stand_push (set views n a) p.passes b (Some new_pass) (stand_view views p.passes n a s.passes (same_pass v a (pass_at p n) h same.1 same.2)) (s.count ∙ sym (length-set views n a)) one;
      },
    )

pub split : SplitLaw
split capacity n items views v p s is two few = split_into capacity n items views v (less_one v) (one_of v) p s is few (refl, refl, omega arith) (refl, refl, omega arith)

-- a join that leaves one view with the tickets of both
join_into : (capacity into from : ℕ) (items : List Ticket) (views : List View) (v w z : View) (p : Pipe) → StandsFor capacity items views p → IsViewAt views into v → IsViewAt views from w → from ≢ into
    → has_work p from ≡ false → (z.pushed ≡ v.pushed ++ w.pushed) × (z.taken ≡ v.taken ++ w.taken) × (0 < z.shares)
    → Leads p (Join into from) capacity items (set (set views into z) from spent)
join_into capacity into from items views v w z p s is is' apart free both =
    let h = there capacity items views p into v s is in
    let k = there capacity items views p from w s is' in
    let here = not_gone (pass_at p into) h.0 h.1 in
    let here' = not_gone (pass_at p from) k.0 k.1 in
    let differ : (into == from) ≡ false = grind (arith, nat_tests) in
    let f = λ (x : Holding). record x { kept = x.kept ++ kept_in p from } in
    let now : HaveSameJobs (jobs_with (Some (f h.0))) (jobs_among (core_tickets z.taken)) = λ weight.
    let a = h.2 weight in
    let b = keeps_all p from w k free weight in
    let c : sum_by weight (kept_in p from) ≡ sum_by weight k.0.kept = ap (λ o. sum_by weight (kept_by o)) k.1 in
    let d : sum_by weight (jobs_among (core_tickets z.taken)) ≡ sum_by weight (jobs_among (core_tickets (v.taken ++ w.taken))) = ap (λ ts. sum_by weight (jobs_among (core_tickets ts))) both.1 in
    omega (arith, jobs-append weight v.taken w.taken, sum_by-append weight (held_job h.0.held) (h.0.kept ++ kept_in p from), sum_by-append weight (held_job h.0.held) h.0.kept, sum_by-append weight h.0.kept (kept_in p from)) in
    let within = at_within views into v is.0 in
    let within' = at_within views from w is'.0 in
    let count = s.count in
    let ps = changed p.passes into f in
    let long : length ps ≡ length p.passes = length-set p.passes into (option_map f (pass_at p into)) in
    let vs = set views into z in
    let at' : get_elem? vs from ≡ some w = set_else views into from z apart ∙ is'.0 in (
      skip (is_gone p into) (NoPass into) _ here ∙ skip (into == from) (NoPass from) _ differ ∙ skip (is_gone p from) (NoPass from) _ here' ∙ skip (has_work p from) (Holds from) None free,
      record {
        room = s.room;
        queued = s.queued;
        pushed = λ weight.
            let a = s.pushed weight in
            let b = total-set weight pushes views into v z is.0 in
            let c = total-set weight pushes vs from w spent at' in
            let d : sum_by weight (pushes z) ≡ sum_by weight (core_tickets (v.pushed ++ w.pushed)) = ap (λ ts. sum_by weight (core_tickets ts)) both.0 in
            omega (arith, tickets-append weight v.pushed w.pushed);
        popped = λ weight.
            let a = s.popped weight in
            let b = total-set weight takes views into v z is.0 in
            let c = total-set weight takes vs from w spent at' in
            let d : sum_by weight (takes z) ≡ sum_by weight (core_tickets (v.taken ++ w.taken)) = ap (λ ts. sum_by weight (core_tickets ts)) both.1 in
            omega (arith, tickets-append weight v.taken w.taken);
        count = length-set ps from None ∙ long ∙ s.count ∙ sym (length-set views into z) ∙ sym (length-set vs from spent);
        passes = stand-set vs ps from spent None (stand-set views p.passes into z (option_map f (pass_at p into)) s.passes (omega arith) (subst (λ o. StandsForPass z (option_map f o)) (sym h.1) (both.2, now))) (omega arith) refl;
      },
    )

pub join : JoinLaw
join capacity into from items views v w p s is is' apart =
    join_into capacity into from items views v w (joined v w) (step p (Keep from)) (keeps capacity from items views p s) is is' apart (rested p from) (refl, refl, let a = is.1 in omega arith)

pub begin : BeginLaw
begin capacity n shares image items views p s is has few =
    let a = whole image shares in
    let b = one_of blank in
    let last = length views in
    let one = split_into capacity n items views blank a b p s is few (refl, refl, has) (refl, refl, omega arith) in
    let q = after p (Split n) in
    let within = at_within views n blank is.0 in
    let vs = set views n a in
    let long : length vs ≡ last = length-set views n a in
    let at : get_elem? (vs ++ b ∷ []) n ≡ some a = at_longer vs (b ∷ []) n a (set_here views n a within) in
    let at' : get_elem? (vs ++ b ∷ []) last ≡ some b = at_last vs b last long in
    let new : pass_at q last ≡ Some new_pass = last_of p.passes (Some new_pass) None last s.count in
    let two = join_into capacity n last items (vs ++ b ∷ []) a b a q one.1 (at, has) (at', omega arith) (λ e. omega arith) (ap holds_work new) (refl, refl, has) in
    let left : set (set (vs ++ b ∷ []) n a) last spent ≡ vs ++ spent ∷ [] = ap (λ l. set l last spent) (set_again (vs ++ b ∷ []) n a at) ∙ set_last vs b spent last long in
    let split_done : step p (Split n) ≡ q = done p (Split n) one.0 in
    let join_done : step q (Join n last) ≡ after q (Join n last) = done q (Join n last) two.0 in
    subst (λ l. StandsFor capacity items l (run p (Split n ∷ Join n last ∷ []))) left
    (subst (StandsFor capacity items (set (set (vs ++ b ∷ []) n a) last spent)) (sym (ap (λ r. step r (Join n last)) split_done ∙ join_done)) two.1)

pub balanced : BalanceLaw
balanced capacity items views p s sound = (
  (λ weight.
      let a = s.pushed weight in
      let b = s.popped weight in
      let c : sum_by weight p.pushed ≡ sum_by weight (p.popped ++ p.queued) = ap (sum_by weight) sound.in_order in
      let d : sum_by weight p.queued ≡ sum_by weight (core_tickets items) = ap (sum_by weight) s.queued in
      omega (arith, sum_by-append weight p.popped p.queued, sum_by-append weight (all_taken views) (core_tickets items))),
  let long : length p.queued ≡ length items = ap length s.queued ∙ length-map items core_ticket in
      let most = s.room in
      let within = sound.within in omega arith,
)
