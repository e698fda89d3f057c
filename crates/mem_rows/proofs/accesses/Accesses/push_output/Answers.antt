use Rattle.std.proofs.Common.{arith, ◌≡◌}
use Rattle.mem_rows.proofs.Added.{output_none, output_more}
use Rattle.mem_rows.proofs.accesses.Accesses.push_output.Goals as goal

pub loop-k-init : goal.loop-k-init
loop-k-init c = output_none c.args.public.now c.args.self.now

pub loop-k-preserved : goal.loop-k-preserved
loop-k-preserved c = output_more c.args.public.now c.loop-k.k _ _ _ _ c.loop-k.invariant c.output_word.ensures c.in_ok-put.ensures
