use Rattle.std.proofs.Common.{IfOk, subst}
use Rattle.zk_layout.specs.declared.air.Air.{Air}
use Rattle.run_rows.specs.Runs.{values_of}
use Rattle.row_columns.specs.Cells.{IsTableOf}
use Rattle.arith_rows.proofs.Rows.{are_rows, wide}
use Rattle.arith_rows.proofs.expansion.expand.Goals as goal

pub table_of_job-requires-clause-width : goal.table_of_job-requires-clause-width
table_of_job-requires-clause-width c = wide c.args.job.now.air c.requires.air

pub table_of_job-requires-clause-row : goal.table_of_job-requires-clause-row
table_of_job-requires-clause-row c = are_rows c.args.job.now.air c.args.image.now c.requires.air

pub returns : goal.returns
returns c =
    subst (λ (a : Air). IfOk c.table_of_job.result (IsTableOf a c.args.image.now c.args.job.now (values_of c.args.chunks.now))) c.requires.air c.table_of_job.ensures
