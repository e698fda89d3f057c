use Rattle.std.proofs.Common.{◌≡◌, refl, ◌∙◌}
use Rattle.mem_rows.proofs.Added.{step_more, chunk_done}
use Rattle.mem_rows.proofs.accesses.Accesses.add_chunk.Goals as goal

pub loop-step-init : goal.loop-step-init
loop-step-init c = λ k. refl

pub loop-step-preserved : goal.loop-step-preserved
loop-step-preserved c = λ k. step_more _ _ _ _ _ c.in-Some.ensures.next c.in_ok-push_step.ensures k ∙ c.loop-step.invariant k

pub returns : goal.returns
returns c = chunk_done c.args.image.now _ _ _ _ _ c.args.chunk.now.steps c.in_default.ensures.next c.new-replay.ensures c.loop-step.invariant c.requires.next
