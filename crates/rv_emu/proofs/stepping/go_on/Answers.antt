use Rattle.std.proofs.Common.{◌<◌, ℕ, arith}
use Rattle.rv_emu.specs.Emulator.{IsAfter, state_of}
use Rattle.rv_emu.proofs.Onward.{after_more, stops}
use Rattle.rv_emu.proofs.stepping.go_on.Goals as goal

pub loop-steps-preserved : goal.loop-steps-preserved
loop-steps-preserved c =
    let below : c.go_on_decoded.new.steps < c.args.most = rw c.in-None.is at c.in_ok-answer.ensures.stopped in
    let leads = rw c.in-Next.is at c.in_ok-answer-in-None.ensures.ok in
    (omega arith, λ from begun. after_more _ from c.go_on_decoded.new.steps _ _ _ _ (c.go_on_decoded.ensures.after from (c.loop-steps.invariant.1 from begun)) leads)

pub returns-in_default : goal.returns-in_default
returns-in_default c =
    let below : c.go_on_decoded.new.steps < c.args.most = rw c.in-None.is at c.in_ok-answer.ensures.stopped in
    let after : (from : ℕ) → IsAfter c.args.image.now from c.args.steps.now (state_of c.args.cpu.now c.args.memory.now) c.args.olds.now.items → IsAfter c.args.image.now from c.go_on_decoded.new.steps (state_of c.go_on_decoded.new.cpu c.go_on_decoded.new.memory) c.go_on_decoded.new.olds.items =
    λ from begun. c.go_on_decoded.ensures.after from (c.loop-steps.invariant.1 from begun) in
    record {
      after = λ from begun. (stops _ from _ c.args.most _ _ c.in_ok-answer-in-None.answer _ _ c.in_default.not-Next below (after from begun) c.in_ok-answer-in-None.ensures.ok).0;
      few = c.go_on_decoded.ensures.few;
      stopped = λ from begun. (stops _ from _ c.args.most _ _ c.in_ok-answer-in-None.answer _ _ c.in_default.not-Next below (after from begun) c.in_ok-answer-in-None.ensures.ok).1;
    }
