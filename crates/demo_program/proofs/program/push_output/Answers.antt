use Rattle.std.proofs.Common.{arith}
use Rattle.demo_program.specs.Program.{put_out}
use Rattle.demo_program.proofs.Listing.{pushed, put_out_is}
use Rattle.demo_program.proofs.program.push_output.Goals as goal

pub loop-j-preserved : goal.loop-j-preserved
unfolding put_out
loop-j-preserved c = pushed put_out c.args.program.now.items c.loop-j.program.items c.push.new.self.items _ c.loop-j.j c.loop-j.invariant c.in_ok-push.ensures.items (put_out_is c.loop-j.j _ _ _ (omega arith) c.base.ensures c.value.ensures c.from.ensures)
