use Rattle.std.proofs.Common.{◌∙◌, sym, Option, Some, None, MatchOption, IfNone}
use Rattle.crossbeam_queue.specs.Passes.{view}
use Rattle.job_queue.specs.declared.ticket.Ticket.{Ticket}
use Rattle.job_queue.proofs.Keeps.{found_none}
use Rattle.job_queue.proofs.queue.JobQueue.pop_as.Goals as goal

for_none : (r : Option Ticket) (P R : Type 0) (Q : Ticket → Type 0) → MatchOption r P Q → (P → R) → IfNone r R
for_none None P R Q told so = so told
for_none (Some t) P R Q told so = tt

pub returns-clause-empty_for_all : goal.returns-clause-empty_for_all
returns-clause-empty_for_all g c = let q = c.requires.queue in
    for_none c.pop-taken.result _ _ _ c.pop-taken.ensures.rule (λ told has_all. found_none (view c.args.pass) told.1 q.share (has_all ∙ sym q.all))
