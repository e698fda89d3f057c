use Rattle.binary_rows.proofs.BinaryRows.{are_rows, wide}
use Rattle.binary_rows.proofs.expansion.expand_binary.Goals as goal

pub table_of_job-requires-clause-width : goal.table_of_job-requires-clause-width
table_of_job-requires-clause-width c = wide c.args.job.now.air c.requires.air

pub table_of_job-requires-clause-row : goal.table_of_job-requires-clause-row
table_of_job-requires-clause-row c = are_rows c.args.job.now.air c.args.image.now c.requires.air
