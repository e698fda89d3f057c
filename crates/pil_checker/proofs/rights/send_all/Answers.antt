use Rattle.std.proofs.Common.{◌≡◌, [], flat_map, sym, ◌∙◌, ap, arith}
use Rattle.std.specs.List.{range_with_len}
use Rattle.pil_ast.specs.Tree.{namespaces}
use Rattle.pil_ast.specs.Holds.{row_sent}
use Rattle.pil_checker.proofs.Rows.{rows-more, rows-all}
use Rattle.pil_checker.proofs.rights.send_all.Goals as goal

pub loop-instance-preserved : goal.loop-instance-preserved
loop-instance-preserved g c = record {
  room = c.send_rows.ensures.room ∙ c.loop-instance.invariant.room;
  sent = λ a of.
      rows-more (λ i. flat_map (row_sent (namespaces c.args.pil.now) (g.C.Columns.values c.args.columns.now) a i) (range_with_len 0 c.rows-rows.result)) c.loop-instance.instance [] c.loop-instance.tuples c.send_rows.new.tuples
      (c.loop-instance.invariant.sent a of) (c.in_ok-send_rows.ensures.sent (namespaces c.args.pil.now) a of (sym of.space));
}

pub returns : goal.returns
returns g c = λ a of.
    let ns = namespaces c.args.pil.now in
    let d = g.C.Columns.values c.args.columns.now in
    let s = c.args.sender.now.space in
    let past = c.loop-instance-test.false in
    let end = c.loop-instance.auto.instance-end in
    let all : c.loop-instance.instance ≡ c.instances-instance-end.result = omega arith in
    c.loop-instance.invariant.sent a of
    ∙ rows-all ns d a c.loop-instance.instance c.rows-rows.result (all ∙ c.instances-instance-end.ensures ∙ ap d.instances of.space) (c.rows-rows.ensures ∙ sym (c.requires.fits.rows s c.requires.space) ∙ ap d.rows of.space)
