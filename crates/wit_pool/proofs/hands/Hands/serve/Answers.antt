use Rattle.std.proofs.Common.{◌++◌, ◌∷◌, [], sym, ◌∙◌, subst}
use Rattle.job_queue.specs.Calls.{image_of}
use Rattle.job_queue.specs.declared.ticket.Ticket.{Ticket}
use Rattle.wit_pool.specs.Serving.{AreTables}
use Rattle.wit_pool.proofs.Results.{made_work, made_stop, or_false, true_work, had_memory}
use Rattle.wit_pool.proofs.hands.Hands.serve.Goals as goal

pub make-requires : goal.make-requires
make-requires g c = true_work (image_of c.args.queue.now) c.image.result.now c.args.ticket.now c.in-Work.job c.in-Work.chunks c.as_slice.result.now c.requires c.in-Work.is c.image.ensures c.as_slice.ensures

pub returns-in-Work-clause-made : goal.returns-in-Work-clause-made
returns-in-Work-clause-made g c = λ ts was short.
    let both = or_false c.args.self.short c.is_err-lacks.result short in
    made_work (image_of c.args.queue.now) c.image.result.now ts c.args.ticket.now c.in-Work.job c.in-Work.chunks c.args.self.done.items c.make.new.done.items c.image.ensures c.in-Work.is (was both.0)
    (had_memory c.make.result _ (sym c.is_err-lacks.ensures.value ∙ both.1) c.make.ensures)

pub returns-in-Stop-clause-made : goal.returns-in-Stop-clause-made
returns-in-Stop-clause-made g c = λ ts was short.
    subst (λ (t : Ticket). AreTables (image_of c.args.queue.now) (ts ++ t ∷ []) c.args.self.done.items) (sym c.in-Stop.is) (made_stop (image_of c.args.queue.now) ts c.args.self.done.items (was short))
