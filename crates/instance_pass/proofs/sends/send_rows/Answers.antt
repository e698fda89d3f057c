use Rattle.std.proofs.Common.{◌≡◌, ◌+◌, ◌++◌, length, flat_map, sym, ◌∙◌, subst, arith, rules}
use Rattle.std.specs.List.{range_with_len}
use Rattle.pil_ast.specs.Holds.{row_sent}
use Rattle.pil_program.specs.Program.{AreValues}
use Rattle.pil_program.specs.Blocks.{at_lane}
use Rattle.instance_pass.proofs.Blocks.{lanes-sent}
use Rattle.instance_pass.proofs.sends.send_rows.Goals as goal

pub loop-base-preserved : goal.loop-base-preserved
loop-base-preserved g c =
    let d = g.C.Columns.values c.args.columns.now in
    let i = c.args.place.now.instance in
    let base = c.loop-base.base in
    let count = c.min-count.result in
    let short = c.min-count.ensures in
    let test = c.loop-base-test.true in
    record {
      room = c.run.ensures.room ∙ c.loop-base.invariant.room;
      low = search rules;
      sent = λ ns a of e.
          lanes-sent ns d a c.args.sender.now i base count c.args.nodes.now (at_lane c.run.new.blocks) c.args.tuples.now c.loop-base.tuples c.push_rows.new.tuples of
          (λ j l. subst (λ z. AreValues d z i (base + j) c.args.nodes.now (length c.args.nodes.now) (at_lane c.run.new.blocks j)) (sym e) (c.run.ensures.values j l))
          (c.loop-base.invariant.sent ns a of e) c.in_ok-push_rows.ensures;
    }

pub returns-clause-sent : goal.returns-clause-sent
returns-clause-sent g c = λ ns a of e.
    let low = c.loop-base.invariant.low in
    let past = c.loop-base-test.false in
    let all : c.loop-base.base ≡ c.args.place.now.rows = omega arith in
    subst (λ m. c.loop-base.tuples ≡ c.args.tuples.now ++ flat_map (row_sent ns (g.C.Columns.values c.args.columns.now) a c.args.place.now.instance) (range_with_len 0 m)) all (c.loop-base.invariant.sent ns a of e)
