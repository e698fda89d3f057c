use Rattle.std.proofs.Common.{arith}
use Rattle.wit_columns.proofs.Starts.{Begun-more, Begun-all}
use Rattle.wit_columns.proofs.table_columns.starts.Goals as goal

pub loop-air-preserved : goal.loop-air-preserved
loop-air-preserved c =
    Begun-more c.args.shape.now c.args.witness.now c.loop-air.air c.loop-air.start c.end_of-start.result c.loop-air.starts c.push.new.self c.loop-air.invariant
    (omega (arith, c.loop-air-test.true, c.len-air-end.ensures)) (rw (← c.as_slice-tables.ensures.items) c.end_of-start.ensures) c.in_ok-push.ensures.ok

pub returns : goal.returns
returns c =
    Begun-all c.args.shape.now c.args.witness.now c.loop-air.air c.loop-air.start c.loop-air.starts c.push-2.new.self c.loop-air.invariant
    (omega (arith, c.loop-air-test.false, c.len-air-end.ensures)) c.in_ok-push-2.ensures.ok
