use Rattle.std.proofs.Common.{sym}
use Rattle.std.proofs.lemmas.List.{append-nil}
use Rattle.pil_ast.specs.Tree.{namespaces, tuples as list_of}
use Rattle.bus_check.specs.Bus.{IsListOf}
use Rattle.bus_check.specs.Run.{sent_from}
use Rattle.pil_laws.proofs.Loops.{mapped-at, pieces-more}
use Rattle.bus_check.proofs.rows.push_from.Goals as goal

pub loop-list-init : goal.loop-list-init
loop-list-init g c = (c.requires.made, sym (append-nil c.args.tuples.now))

pub push_list_from-requires-clause-list : goal.push_list_from-requires-clause-list
push_list_from-requires-clause-list g c = mapped-at list_of (IsListOf (namespaces c.args.pil.now)) c.args.lists.now c.loop-list.list-index c.list-item.result c.loop-list-test.true c.list-item.is c.requires.lists

pub loop-list-preserved : goal.loop-list-preserved
loop-list-preserved g c = (
  c.in_ok-push_list_from.ensures.made,
  pieces-more list_of c.args.lists.now c.loop-list.list-index c.list-item.result c.loop-list-test.true c.list-item.is
      (sent_from (namespaces c.args.pil.now) (record { columns = g.C.Columns.values c.args.columns.now; space = c.args.space; instance = c.args.instance }))
      c.args.tuples.now c.loop-list.tuples c.push_list_from.new.tuples c.loop-list.invariant.1 c.in_ok-push_list_from.ensures.sent,
)
