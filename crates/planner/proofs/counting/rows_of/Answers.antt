use Rattle.zk_layout.specs.declared.air.Air.TheVariants.{Main, Binary, Shift, Arith, Align}
use Rattle.planner.specs.Rows.{has_row, counted}
use Rattle.planner.proofs.CountLemmas.{same_counts, one_row}
use Rattle.planner.proofs.counting.rows_of.Goals as goal

pub returns : goal.returns
unfolding counted
returns c =
    same_counts _ _ _ _ _ _ _ _ _ _ (one_row (has_row Main) c.args.step.now _ _ c.from.ensures c.has_row.ensures) (one_row (has_row Binary) c.args.step.now _ _ c.from-2.ensures c.has_row-2.ensures)
    (one_row (has_row Shift) c.args.step.now _ _ c.from-3.ensures c.has_row-3.ensures) (one_row (has_row Arith) c.args.step.now _ _ c.from-4.ensures c.has_row-4.ensures)
    (one_row (has_row Align) c.args.step.now _ _ c.from-5.ensures c.has_row-5.ensures)
