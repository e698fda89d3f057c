use Rattle.std.proofs.Common.{◌≡◌, flat_map, ◌∙◌, arith}
use Rattle.std.specs.List.{range_with_len}
use Rattle.pil_ast.specs.Tree.{namespaces, tuples as list_of}
use Rattle.pil_ast.specs.Holds.{row_sent}
use Rattle.bus_check.proofs.Sent.{rows-more, sent-whole}
use Rattle.bus_check.proofs.rows.push_list.Goals as goal

pub loop-instance-preserved : goal.loop-instance-preserved
loop-instance-preserved g c = (
  c.push_instance.ensures.made,
  rows-more (λ i. flat_map (row_sent (namespaces c.args.pil.now) (g.C.Columns.values c.args.columns.now) (list_of c.args.list.now) i) (range_with_len 0 ((g.C.Columns.values c.args.columns.now).rows c.args.list.now.space))) c.loop-instance.instance c.args.tuples.now c.loop-instance.tuples c.push_instance.new.tuples c.loop-instance.invariant.1 c.in_ok-push_instance.ensures.sent,
)

pub returns-clause-sent : goal.returns-clause-sent
returns-clause-sent g c =
    let past = c.loop-instance-test.false in
    let end = c.loop-instance.auto.instance-end in
    let all : c.loop-instance.instance ≡ c.instances-instances.result = omega arith in
    sent-whole (namespaces c.args.pil.now) (g.C.Columns.values c.args.columns.now) (list_of c.args.list.now) c.loop-instance.instance c.args.tuples.now c.loop-instance.tuples (all ∙ c.instances-instances.ensures) c.loop-instance.invariant.1
