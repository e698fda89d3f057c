use Rattle.std.proofs.Common.{arith}
use Rattle.mem_rows.proofs.Begun.{range_none, range_more, range_done}
use Rattle.mem_rows.proofs.accesses.Accesses.write_range.Goals as goal

pub loop-k-init : goal.loop-k-init
loop-k-init c = range_none c.args.image.now c.args.self.now c.args.from c.requires.part

pub write-requires-clause-part : goal.write-requires-clause-part
write-requires-clause-part c = c.loop-k.invariant.part

pub loop-k-preserved : goal.loop-k-preserved
loop-k-preserved c = range_more c.args.image.now _ _ _ c.args.from c.loop-k.k c.loop-k.invariant c.in_ok-write.ensures

pub returns : goal.returns
returns c = range_done c.args.image.now _ _ c.args.from c.loop-k.k c.args.to (omega arith) c.loop-k.invariant
