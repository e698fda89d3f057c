-- Events lead from a new core to each moment of the queue.
use Rattle.std.proofs.Common.{◌≡◌, ℕ, ◌<◌, ◌^◌, List, [], ◌∷◌, ◌++◌, length, set, refl, sym, subst, ◌∙◌, arith, length-append}
use Rattle.std.proofs.lemmas.List.{length-set}
use mathlib.Core.Option.{some}
use lib.ListN.{get_elem?}
use Rattle.crossbeam_queue.specs.Fifo.{Pushes, Pops, Forks, Merges}
use Rattle.crossbeam_queue.proofs.Lists.{set_else}
use Rattle.rv_model.specs.Image.{Img}
use Rattle.job_queue.specs.Rule.{whole, blank, spent, with_pushed, with_taken, less_one, one_of, joined}
use Rattle.job_queue.specs.declared.rule.View.{View}
use Rattle.job_queue.specs.declared.ticket.Ticket.{Ticket}
use Rattle.pipe_core.specs.declared.event.Event.{Event}
use Rattle.pipe_core.specs.declared.event.Event.TheVariants.{Push, Pop, Keep, Split, Join}
use Rattle.pipe_core.specs.Pipe.{Pipe, first_pipe}
use Rattle.pipe_core.specs.Events.{step, run}
use Rattle.queue_events.specs.Stands.{core_ticket, StandsFor}
use Rattle.queue_events.specs.Laws.{Leads, IsLed}
use Rattle.queue_events.proofs.Events.{done, pushed, popped, split, join, begin}

run-append : (p : Pipe) (es fs : List Event) → run p (es ++ fs) ≡ run (run p es) fs
run-append p [] fs = refl
run-append p (e ∷ es) fs = run-append (step p e) es fs

abbrev Led : ℕ → List Ticket → List View → Type 0
Led capacity items views = (events : List Event) × StandsFor capacity items views (run (first_pipe capacity) events)

-- after some events, some more
more : (capacity : ℕ) (items : List Ticket) (views : List View) (es fs : List Event) → StandsFor capacity items views (run (run (first_pipe capacity) es) fs) → Led capacity items views
more capacity items views es fs s = (es ++ fs, subst (StandsFor capacity items views) (sym (run-append (first_pipe capacity) es fs)) s)

-- and the last of them is done
then : (capacity : ℕ) (items : List Ticket) (views : List View) (p : Pipe) (e : Event) → Leads p e capacity items views → StandsFor capacity items views (step p e)
then capacity items views p e l = subst (StandsFor capacity items views) (sym (done p e l.0)) l.1

pub begins : (capacity port shares : ℕ) (image : Img) → 0 < shares → Forks (IsLed capacity) port blank (whole image shares) spent
begins capacity port shares image has items views led at few =
    let a = whole image shares in
    let long = length-set views port a in
    let room : length views < 2 ^ 32 = omega (arith, length-append (set views port a) (spent ∷ [])) in
    let l = led (omega arith) in
    more capacity items (set views port a ++ spent ∷ []) l.0 (Split port ∷ Join port (length views) ∷ []) (begin capacity port shares image items views (run (first_pipe capacity) l.0) l.1 (at, omega arith) has room)

pub puts : (capacity port : ℕ) (v : View) (t : Ticket) → 0 < v.shares → Pushes (IsLed capacity) capacity port v t (λ w. w ≡ with_pushed v t)
puts capacity port v t has items views room led at = (
  with_pushed v t,
  (λ few.
      let l = led (let e = length-set views port (with_pushed v t) in omega arith) in
      let p = run (first_pipe capacity) l.0 in
      let e = Push port (core_ticket t) in
      more capacity (items ++ t ∷ []) (set views port (with_pushed v t)) l.0 (e ∷ []) (then capacity _ _ p e (pushed capacity port items views v t p l.1 (at, has) room))),
  refl,
)

pub takes : (capacity port : ℕ) (v : View) → 0 < v.shares → Pops (IsLed capacity) port v (λ t w. w ≡ with_taken v t)
takes capacity port v has t items views led at = (
  with_taken v t,
  (λ few.
      let l = led (let e = length-set views port (with_taken v t) in omega arith) in
      let p = run (first_pipe capacity) l.0 in
      more capacity items (set views port (with_taken v t)) l.0 (Keep port ∷ Pop port ∷ []) (then capacity _ _ (step p (Keep port)) (Pop port) (popped capacity port items views v t p l.1 (at, has)))),
  refl,
)

pub forks : (capacity port : ℕ) (v : View) → 1 < v.shares → Forks (IsLed capacity) port v (less_one v) (one_of v)
forks capacity port v two items views led at few =
    let a = less_one v in
    let b = one_of v in
    let long = length-set views port a in
    let room : length views < 2 ^ 32 = omega (arith, length-append (set views port a) (b ∷ [])) in
    let l = led (omega arith) in
    let p = run (first_pipe capacity) l.0 in
    more capacity items (set views port a ++ b ∷ []) l.0 (Split port ∷ []) (then capacity _ _ p (Split port) (split capacity port items views v p l.1 (at, omega arith) two room))

pub merges : (capacity port other : ℕ) (v w : View) → 0 < v.shares → 0 < w.shares → Merges (IsLed capacity) port v other w (joined v w) spent
merges capacity port other v w has has' items views led at apart at' few =
    let a = joined v w in
    let vs = set views port a in
    let was : get_elem? views other ≡ some w = sym (set_else views port other a apart) ∙ at' in
    let l = led (let x = length-set views port a in let y = length-set vs other spent in omega arith) in
    let p = run (first_pipe capacity) l.0 in
    more capacity items (set vs other spent) l.0 (Keep other ∷ Join port other ∷ []) (then capacity _ _ (step p (Keep other)) (Join port other) (join capacity port other items views v w p l.1 (at, has) (was, has') apart))
