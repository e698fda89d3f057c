use Rattle.pil_ast.specs.Tree.{namespaces, tuples as list_of}
use Rattle.pil_ast.specs.Holds.{row_sent}
use Rattle.bus_check.proofs.Sent.{rows-more}
use Rattle.bus_check.proofs.rows.push_instance.Goals as goal

pub loop-row-preserved : goal.loop-row-preserved
loop-row-preserved g c = (
  c.push_row.ensures.made,
  rows-more (row_sent (namespaces c.args.pil.now) (g.C.Columns.values c.args.columns.now) (list_of c.args.list.now) c.args.instance) c.loop-row.row c.args.tuples.now c.loop-row.tuples c.push_row.new.tuples c.loop-row.invariant.1 c.in_ok-push_row.ensures.sent,
)
