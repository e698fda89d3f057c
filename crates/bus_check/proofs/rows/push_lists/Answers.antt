use Rattle.pil_ast.specs.Tree.{namespaces, tuples as list_of}
use Rattle.bus_check.specs.Bus.{IsListOf}
use Rattle.pil_laws.proofs.Loops.{mapped-at}
use Rattle.bus_check.proofs.Sent.{all_sent-none, all_sent-more}
use Rattle.bus_check.proofs.rows.push_lists.Goals as goal

pub loop-list-init : goal.loop-list-init
loop-list-init g c = (c.requires.made, all_sent-none (namespaces c.args.pil.now) (g.C.Columns.values c.args.columns.now) c.args.tuples.now)

pub push_list-requires-clause-list : goal.push_list-requires-clause-list
push_list-requires-clause-list g c = mapped-at list_of (IsListOf (namespaces c.args.pil.now)) c.args.lists.now c.loop-list.list-index c.list-item.result c.loop-list-test.true c.list-item.is c.requires.lists

pub loop-list-preserved : goal.loop-list-preserved
loop-list-preserved g c = (
  c.push_list.ensures.made,
  all_sent-more (namespaces c.args.pil.now) (g.C.Columns.values c.args.columns.now) list_of c.args.lists.now c.loop-list.list-index c.list-item.result c.args.tuples.now c.loop-list.tuples c.push_list.new.tuples c.loop-list-test.true c.list-item.is c.loop-list.invariant.1 c.in_ok-push_list.ensures.sent,
)
