use Rattle.std.proofs.Common.{[], Ok, Err, inl, refl, sym, ap, ◌∙◌}
use Rattle.zk_top.specs.Outcome.{Outcome, IsMachineOutcome}
use Rattle.zk_top.proofs.Stages.{asks_nothing, stage_leads}
use Rattle.zk_top.proofs.printing.print_call.Goals as goal

pub returns-in-Ok-clause-ends : goal.returns-in-Ok-clause-ends
returns-in-Ok-clause-ends g c = λ told o is.
    let old = g.H.Host.world c.args.host.now in
    let leads = stage_leads [] (λ names. IsMachineOutcome names c.args.profile) o (Ok c.in-Ok.text) old old (asks_nothing old) (λ slot. inl refl) (ap (λ (p : Outcome). p.names) is) is c.in-Ok.ensures.comes in
    c.finish.ensures.ends told old o leads.0 (leads.1 ∙ sym c.deref.ensures.value) leads.2

pub returns-in-Err-clause-ends : goal.returns-in-Err-clause-ends
returns-in-Err-clause-ends g c = λ told o is.
    let old = g.H.Host.world c.args.host.now in
    c.refuse.ensures.ends told old o (stage_leads [] (λ names. IsMachineOutcome names c.args.profile) o (Err c.in-Err.status) old old (asks_nothing old) (λ slot. inl refl) (ap (λ (p : Outcome). p.names) is) is c.in-Err.ensures.comes)
