-- Which event of the core each atomic step of the queue is. In each law a moment stands for a pipe before the step, and v is the view of the pass that takes it.
use Rattle.std.specs.Prelude.{◌≡◌, ◌≢◌, ℕ, ◌<◌, ◌≤◌, ◌^◌, Some, None, List, [], ◌∷◌, ◌++◌, length, slice_set}
use mathlib.Core.Option.{some}
use lib.ListN.{get_elem?}
use Rattle.rv_model.specs.Image.{Img}
use Rattle.job_queue.specs.Rule.{whole, blank, spent, with_pushed, with_taken, less_one, one_of, joined}
use Rattle.job_queue.specs.declared.rule.View.{View}
use Rattle.job_queue.specs.declared.ticket.Ticket.{Ticket}
use Rattle.pipe_core.specs.Pipe.{Pipe, first_pipe}
use Rattle.pipe_core.specs.Events.{refusal, after, step, run}
use Rattle.pipe_core.specs.Sound.{IsSound}
use Rattle.pipe_core.specs.declared.event.Event.{Event}
use Rattle.pipe_core.specs.declared.event.Event.TheVariants.{Push, Pop, Keep, Split, Join}
use Rattle.pipe_core.specs.declared.event.EventErr.TheVariants.{Full, Empty}
use Rattle.queue_events.specs.Stands.{core_ticket, core_tickets, HaveSameCoreTickets, all_pushed, all_taken, StandsFor}

-- the pass with this number isn't spent, and this is its view
abbrev pub IsViewAt : List View → ℕ → View → Type 0
IsViewAt views n v = (get_elem? views n ≡ some v) × (0 < v.shares)

-- the core does the event, and the moment stands for what it leaves
abbrev pub Leads : Pipe → Event → ℕ → List Ticket → List View → Type 0
Leads p e capacity items views = (refusal p e ≡ None) × StandsFor capacity items views (after p e)

-- A push is a Push that is done.
abbrev pub PushLaw : Type 0
PushLaw =
    (capacity n : ℕ) (items : List Ticket) (views : List View) (v : View) (t : Ticket) (p : Pipe) → StandsFor capacity items views p → IsViewAt views n v → length items < capacity
    → Leads p (Push n (core_ticket t)) capacity (items ++ t ∷ []) (slice_set views n (with_pushed v t))

-- A look at a full queue is a Push that is refused as Full.
abbrev pub FullLaw : Type 0
FullLaw =
    (capacity n : ℕ) (items : List Ticket) (views : List View) (v : View) (t : Ticket) (p : Pipe) → StandsFor capacity items views p → IsViewAt views n v → length items ≡ capacity
    → refusal p (Push n (core_ticket t)) ≡ Some Full

-- A pop is a Pop that is done, after a Keep where the pass still holds work; elsewhere that Keep leaves no trace.
abbrev pub PopLaw : Type 0
PopLaw =
    (capacity n : ℕ) (items : List Ticket) (views : List View) (v : View) (t : Ticket) (p : Pipe) → StandsFor capacity (t ∷ items) views p → IsViewAt views n v
    → Leads (step p (Keep n)) (Pop n) capacity items (slice_set views n (with_taken v t))

-- A look at an empty queue is a Pop that is refused as Empty, whatever the pass holds.
abbrev pub EmptyLaw : Type 0
EmptyLaw = (capacity n : ℕ) (views : List View) (v : View) (p : Pipe) → StandsFor capacity [] views p → IsViewAt views n v → refusal p (Pop n) ≡ Some Empty

-- A split is a Split that is done, as long as fewer than 2^32 passes were made.
abbrev pub SplitLaw : Type 0
SplitLaw =
    (capacity n : ℕ) (items : List Ticket) (views : List View) (v : View) (p : Pipe) → StandsFor capacity items views p → IsViewAt views n v → 1 < v.shares → length views < 2 ^ 32
    → Leads p (Split n) capacity items (slice_set views n (less_one v) ++ one_of v ∷ [])

-- A join is a Join that is done, after a Keep where the second pass still holds work.
abbrev pub JoinLaw : Type 0
JoinLaw =
    (capacity into from : ℕ) (items : List Ticket) (views : List View) (v w : View) (p : Pipe) → StandsFor capacity items views p → IsViewAt views into v → IsViewAt views from w → from ≢ into
    → Leads (step p (Keep from)) (Join into from) capacity items (slice_set (slice_set views into (joined v w)) from spent)

-- A Keep, done or refused, is no step of the queue: the same moment stands for what it leaves.
abbrev pub KeepLaw : Type 0
KeepLaw = (capacity n : ℕ) (items : List Ticket) (views : List View) (p : Pipe) → StandsFor capacity items views p → StandsFor capacity items views (step p (Keep n))

-- A new queue stands for a new core.
abbrev pub NewLaw : Type 0
NewLaw = (capacity : ℕ) → StandsFor capacity [] (blank ∷ []) (first_pipe capacity)

-- That its image and shares are named is a Split, and a Join of the pass that was made.
abbrev pub BeginLaw : Type 0
BeginLaw =
    (capacity n shares : ℕ) (image : Img) (items : List Ticket) (views : List View) (p : Pipe) → StandsFor capacity items views p → IsViewAt views n blank → 0 < shares → length views < 2 ^ 32
    → StandsFor capacity items (slice_set views n (whole image shares) ++ spent ∷ []) (run p (Split n ∷ Join n (length views) ∷ []))

-- What the core promises of a pipe is then so of the moment: what all passes pushed is what all took and what is queued, and that is at most the capacity.
abbrev pub BalanceLaw : Type 0
BalanceLaw =
    (capacity : ℕ) (items : List Ticket) (views : List View) (p : Pipe) → StandsFor capacity items views p → IsSound p
    → HaveSameCoreTickets (all_pushed views) (all_taken views ++ core_tickets items) × (length items ≤ capacity)

-- The moment stands for what some events make of a new core, as long as at most 2^32 passes were made.
abbrev pub IsLed : ℕ → List Ticket → List View → Type 0
IsLed capacity items views = length views ≤ 2 ^ 32 → (events : List Event) × StandsFor capacity items views (run (first_pipe capacity) events)
