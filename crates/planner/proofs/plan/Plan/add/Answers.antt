use Rattle.std.proofs.Common.{◌<◌, ◌^◌, length, arith, ap, ◌∙◌}
use Rattle.std.proofs.lemmas.Grind.{common_steps}
use Rattle.planner.specs.declared.counts.Counts.{Counts}
use Rattle.planner.specs.Jobs.{added}
use Rattle.planner.proofs.Keeping.{kept_more, kept_still, next_track, made_added}
use Rattle.planner.proofs.plan.Plan.add.Goals as goal

pub jobs_made-requires-clause-next : goal.jobs_made-requires-clause-next
jobs_made-requires-clause-next c =
    let room : length c.self.inside.counts.items < 2 ^ 22 = omega (arith, ap (length {A = Counts}) c.self.view_is) in
    next_track _ _ _ _ c.args.counts.now c.self.invariant c.requires.few room (c.after-tracks.ensures _ (omega arith) c.self.invariant.each) (c.deref.ensures.value ∙ c.in_ok-push.ensures.items)

pub invariant_of-self-in-Ok : goal.invariant_of-self-in-Ok
invariant_of-self-in-Ok c =
    let room : length c.self.inside.counts.items < 2 ^ 22 = omega (arith, ap (length {A = Counts}) c.self.view_is) in
    kept_more _ _ _ c.args.counts.now room (c.after-tracks.ensures _ (omega arith) c.self.invariant.each) c.in_ok-push.ensures.items

pub invariant_of-self-in-Err : goal.invariant_of-self-in-Err
invariant_of-self-in-Err c = kept_still _ _ _ c.self.invariant (grind (arith, common_steps))

pub returns-in-Ok-clause-jobs : goal.returns-in-Ok-clause-jobs
returns-in-Ok-clause-jobs c =
    c.in-Ok.ensures ∙ made_added _ _ _ _ c.args.counts.now c.self.invariant (c.after-tracks.ensures _ (omega arith) c.self.invariant.each) (c.deref.ensures.value ∙ c.in_ok-push.ensures.items) ∙ ap (λ xs. added xs c.args.counts.now) c.self.view_is
