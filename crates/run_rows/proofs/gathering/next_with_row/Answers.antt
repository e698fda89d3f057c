use Rattle.std.proofs.Common.{sym, ◌∙◌}
use Rattle.run_rows.proofs.Steps.{skipped}
use Rattle.run_rows.proofs.gathering.next_with_row.Goals as goal

pub loop-step-preserved : goal.loop-step-preserved
loop-step-preserved c = skipped c.args.air _ _ _ c.in-Some.step c.in-Some.ensures.next (sym c.has_row.ensures ∙ c.if-has_row.false) c.loop-step.invariant
