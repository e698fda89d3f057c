use Rattle.std.proofs.Common.{◌≡◌, arith, refl, ap, ◌∙◌, subst}
use Rattle.rv_model.specs.State.{step, Next, Halt, Fault}
use Rattle.rv_model.specs.Plain.{state_of}
use Rattle.rv_model.specs.Run.{public_of}
use Rattle.rv_model.proofs.Ends.{ends_once, state_first, state_next, meets_none, meets_next, end_at_halt, end_at_fault, end_at_limit}
use Rattle.rv_model.proofs.runs.run.Goals as goal

pub loop-step-init : goal.loop-step-init
loop-step-init c = (c.new-cpu.ensures.image, c.new-cpu.ensures.start ∙ state_first _, meets_none _)

pub loop-step-preserved : goal.loop-step-preserved
loop-step-preserved c =
    let leads = rw c.in-Next.is at c.in-Ok.ensures.ok in
    let before = c.loop-step.invariant in
    let next : step c.args.image.now (state_of c.loop-step.cpu) ≡ Next (state_of c.step.new.self) =
    subst (λ i. step i (state_of c.loop-step.cpu) ≡ Next (state_of c.step.new.self)) before.0 leads.1 in
    (leads.0 ∙ before.0, state_next _ c.loop-step.step _ _ before.1 next, meets_next _ c.loop-step.step _ _ before.1 next before.2)

pub returns-in-Halt-clause-answers : goal.returns-in-Halt-clause-answers
returns-in-Halt-clause-answers c =
    let leads = rw c.in-Halt.is at c.in-Ok.ensures.ok in
    let before = c.loop-step.invariant in
    let halt : step c.args.image.now (state_of c.loop-step.cpu) ≡ Halt = subst (λ i. step i (state_of c.loop-step.cpu) ≡ Halt) before.0 leads.1 in
    end_at_halt _ _ c.loop-step.step _ _ before.1 before.2 (omega arith) halt (c.public.ensures ∙ ap (λ m. public_of (state_of m)) leads.0)

pub returns-in-Fault-clause-answers : goal.returns-in-Fault-clause-answers
returns-in-Fault-clause-answers c =
    let leads = rw c.in-Fault.is at c.in-Ok.ensures.ok in
    let before = c.loop-step.invariant in
    let fault : step c.args.image.now (state_of c.loop-step.cpu) ≡ Fault c.in-Fault.fault = subst (λ i. step i (state_of c.loop-step.cpu) ≡ Fault c.in-Fault.fault) before.0 leads.1 in
    end_at_fault _ _ c.loop-step.step _ _ before.1 before.2 (omega arith) fault

pub returns-clause-answers : goal.returns-clause-answers
returns-clause-answers c = (refl, end_at_limit _ _ c.loop-step.step (omega arith) c.loop-step.invariant.2)

pub returns-in_default-clause-once : goal.returns-in_default-clause-once
returns-in_default-clause-once c = ends_once c.args.image.now c.args.limit

pub returns-in-Halt-clause-once : goal.returns-in-Halt-clause-once
returns-in-Halt-clause-once c = ends_once c.args.image.now c.args.limit

pub returns-in-Fault-clause-once : goal.returns-in-Fault-clause-once
returns-in-Fault-clause-once c = ends_once c.args.image.now c.args.limit

pub returns-clause-once : goal.returns-clause-once
returns-clause-once c = ends_once c.args.image.now c.args.limit
