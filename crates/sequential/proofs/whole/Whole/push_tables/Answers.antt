use Rattle.std.proofs.Common.{sym, ◌∙◌}
use Rattle.sequential.proofs.Making.{one_more, passed_over}
use Rattle.sequential.proofs.whole.Whole.push_tables.Goals as goal
use Rattle.sequential.proofs.whole.Whole.push_tables.Goals.{then-number+in_ok-table_of+in_ok-push, else-number}

pub loop-job-preserved : goal.loop-job-preserved
loop-job-preserved c =
    elim c.if-number.branch [
      | then-number+in_ok-table_of+in_ok-push w ↦
          one_more c.args.air c.args.image.now c.args.self.now.steps c.loop-job.job-index c.deref-job-items.result.now c.job-item.result c.args.tables.now c.loop-job.tables _ w.in_ok-table_of.field-0 c.loop-job-test.true c.job-item.is
          (sym c.number.ensures.value ∙ w.if-number.true ∙ c.number-in-loop-job.ensures.value) w.in_ok-table_of.ensures (w.tables-is ∙ w.in_ok-push.ensures.ok) c.loop-job.invariant
      | else-number w ↦
          w.tables-is ∙ passed_over c.args.air c.args.image.now c.args.self.now.steps c.loop-job.job-index c.deref-job-items.result.now c.job-item.result c.args.tables.now c.loop-job.tables c.loop-job-test.true c.job-item.is
          (λ e. w.if-number.false (c.number.ensures.value ∙ e ∙ sym c.number-in-loop-job.ensures.value)) c.loop-job.invariant
    ]
