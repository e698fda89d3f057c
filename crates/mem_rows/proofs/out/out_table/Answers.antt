use Rattle.std.proofs.Common.{◌≡◌}
use Rattle.mem_rows.proofs.Cells.{out_is}
use Rattle.mem_rows.proofs.out.out_table.Goals as goal

pub returns : goal.returns
returns c = out_is c.args.public.now _ c.rows-rows.result _ _ _ _ _ _ _ _ c.number.ensures.value c.rows-rows.ensures.value c.rows-rows.ensures.least c.in_ok-values.ensures c.deref.ensures.value c.deref-2.ensures.value c.new-columns.ensures c.in_ok-low_column.ensures c.in_ok-push.ensures.ok c.in_ok-high_column.ensures c.in_ok-push-2.ensures.ok
