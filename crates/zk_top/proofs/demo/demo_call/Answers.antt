use Rattle.std.proofs.Common.{[], Ok, inl, refl, sym, ap, ◌∙◌}
use Rattle.zk_top.specs.Outcome.{Outcome, IsDemoOutcome}
use Rattle.zk_top.proofs.Stages.{asks_nothing, stage_leads}
use Rattle.zk_top.proofs.demo.demo_call.Goals as goal

pub returns-in-Ok-clause-ends : goal.returns-in-Ok-clause-ends
returns-in-Ok-clause-ends g c = λ told o demo.
    let old = g.H.Host.world c.args.host.now in
    let leads = stage_leads [] (λ names. IsDemoOutcome names c.args.number c.args.kind c.args.size) o (Ok c.in-Ok.text) old old (asks_nothing old) (λ slot. inl refl) (ap (λ (p : Outcome). p.names) demo.is) demo c.in-Ok.ensures in
    c.finish.ensures.ends told old o leads.0 (leads.1 ∙ sym c.deref.ensures.value) leads.2
