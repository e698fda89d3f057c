use Rattle.std.proofs.Common.{refl, inl}
use Rattle.row_bench.proofs.Making.{planned, job_known}
use Rattle.row_bench.proofs.whole.Whole.table_of.Goals as goal

pub named-requires : goal.named-requires
named-requires c = (c.args.image.now, c.args.self.now.steps, planned c.args.image.now c.args.self.now _ c.args.job.now c.deref.ensures.value c.requires.run c.requires.job)

pub expand-requires : goal.expand-requires
expand-requires c = (
  c.args.self.now.steps,
  job_known c.jobs_of_a_run.ensures.last c.args.image.now c.args.self.now c.args.job.now _ _ c.requires.run c.requires.job c.deref-2.ensures.value
      (c.in_ok-chunks.ensures c.args.image.now c.args.self.now.steps c.args.self.now.steps (planned c.args.image.now c.args.self.now _ c.args.job.now c.deref.ensures.value c.requires.run c.requires.job) (inl refl)),
)
