-- The jobs of tickets.
use Rattle.std.specs.Prelude.{List, [], ◌∷◌}
use Rattle.planner.specs.declared.job.Job.{Job}
use Rattle.job_queue.specs.declared.ticket.Ticket.{Ticket}
use Rattle.job_queue.specs.declared.ticket.Ticket.TheVariants.{Work, Stop}

-- the jobs of the tickets, in order
abbrev pub jobs_of : List Ticket → List Job
jobs_of [] = []
jobs_of (Work job chunks ∷ ts) = job ∷ jobs_of ts
jobs_of (Stop ∷ ts) = jobs_of ts
