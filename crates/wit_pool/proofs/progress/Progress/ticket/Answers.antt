use Rattle.std.proofs.Common.{sym, subst, List}
use Rattle.std.specs.declared.sync.Arc.{Arc}
use Rattle.std.specs.declared.alloc.Global.{Global}
use Rattle.min_trace.specs.Chunk.{Piece}
use Rattle.job_queue.specs.Truth.{IsTrueOf}
use Rattle.job_queue.specs.declared.ticket.Ticket.TheVariants.{Work}
use Rattle.wit_pool.proofs.Tickets.{planned, ticket_true}
use Rattle.wit_pool.proofs.progress.Progress.ticket.Goals as goal

pub returns-clause-truth : goal.returns-clause-truth
returns-clause-truth c =
    let n = c.requires.0 in
    let image = c.args.image.now in
    let plan = planned image n c.args.self.now.chunks.items _ c.args.job c.deref.ensures.value c.requires.1 c.requires.2 in
    subst (λ (cs : List (Arc Piece Global)). IsTrueOf image (Work c.args.job cs)) (sym c.from_vec.ensures)
    (ticket_true image n c.args.job c.in_ok-chunks.chunks.items c.requires.2 (λ m later. c.in_ok-chunks.ensures image n m plan later))
