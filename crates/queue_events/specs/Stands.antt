-- When a moment of the running queue stands for a pipe of the core. A moment is what is queued, front first, and the views of all passes by number, as the queue's rule has them.
use Rattle.std.specs.Prelude.{◌≡◌, ℕ, ◌<◌, Option, Some, None, List, map, flat_map, length, sum_by}
use mathlib.Core.Option.{some}
use lib.ListN.{get_elem?}
use Rattle.job_queue.specs.Rule.{spent}
use Rattle.job_queue.specs.declared.rule.View.{View}
use Rattle.job_queue.specs.declared.ticket.Ticket.{Ticket}
use Rattle.job_queue.specs.declared.ticket.Ticket.TheVariants.{Work, Stop}
use Rattle.pipe_core.specs.Pipe.{Holding, Pipe, pass_at}
use Rattle.pipe_core.specs.Sound.{jobs_among, jobs_with, HaveSameJobs}
use Rattle.pipe_core.specs.declared.event.CoreTicket.{CoreTicket}
use Rattle.pipe_core.specs.declared.event.CoreTicket.TheVariants as core

-- what the core has of a ticket: of a job its air and its instance
abbrev pub core_ticket : Ticket → CoreTicket
core_ticket (Work job chunks) = core.Work (record { air = job.air; instance = job.instance })
core_ticket Stop = core.Stop

abbrev pub core_tickets : List Ticket → List CoreTicket
core_tickets ts = map core_ticket ts

-- both lists have each ticket as often: however tickets are weighed, they weigh the same
abbrev pub HaveSameCoreTickets : List CoreTicket → List CoreTicket → Type 0
HaveSameCoreTickets xs ys = (weight : CoreTicket → ℕ) → sum_by weight xs ≡ sum_by weight ys

-- what all passes together pushed and took
abbrev pub all_pushed : List View → List CoreTicket
all_pushed views = flat_map (λ (v : View). core_tickets v.pushed) views

abbrev pub all_taken : List View → List CoreTicket
all_taken views = flat_map (λ (v : View). core_tickets v.taken) views

-- A spent view stands for a pass that is gone. Another stands for a pass that holds and keeps the jobs that it took, each as
-- often: so the pass may still hold the last one, or have kept it.
abbrev pub StandsForPass : View → Option Holding → Type 0
StandsForPass v None = v ≡ spent
StandsForPass v (Some h) = (0 < v.shares) × HaveSameJobs (jobs_with (Some h)) (jobs_among (core_tickets v.taken))

pub record StandsFor (capacity : ℕ) (items : List Ticket) (views : List View) (p : Pipe) : Type 0 where
  pub room : p.capacity ≡ capacity
  -- the same tickets wait in the same order
  pub queued : p.queued ≡ core_tickets items
  -- what was pushed and popped is what the passes pushed and took
  pub pushed : HaveSameCoreTickets p.pushed (all_pushed views)
  pub popped : HaveSameCoreTickets p.popped (all_taken views)
  -- each view stands for the pass with its number
  pub count : length p.passes ≡ length views
  pub passes : (n : ℕ) (v : View) → get_elem? views n ≡ some v → StandsForPass v (pass_at p n)
