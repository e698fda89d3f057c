use Rattle.run_tables.proofs.Airs.{binary_or_shift}
use Rattle.run_tables.proofs.expansion.expand.Goals as goal

pub expand-requires-in_default : goal.expand-requires-in_default
expand-requires-in_default c = record {
  air = binary_or_shift _ _ c.args.job.now _ c.requires.1 c.in_default.not-Main c.in_default.not-Arith c.in_default.not-Align;
  job = c.requires;
}
