use Rattle.std.proofs.Common.{arith}
use Rattle.rv_emu.proofs.Onward.{after_more}
use Rattle.rv_emu.proofs.stepping.go_on_decoded.Goals as goal

pub loop-steps-preserved : goal.loop-steps-preserved
loop-steps-preserved c =
    let leads = rw c.in-Next.is at c.in_ok-answer.ensures.ok in
    (omega arith, omega arith, λ from begun. after_more _ from c.loop-steps.steps _ _ _ _ (c.loop-steps.invariant.2 from begun) leads)
