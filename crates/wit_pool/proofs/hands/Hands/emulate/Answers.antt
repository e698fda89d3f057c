use Rattle.std.proofs.Common.{sym, ◌∙◌}
use Rattle.wit_pool.specs.Serving.{shares_of}
use Rattle.wit_pool.proofs.Results.{had_memory}
use Rattle.wit_pool.proofs.Leads.{stepped, led_err}
use Rattle.wit_pool.proofs.hands.Hands.emulate.Goals as goal

pub loop-chunk-preserved : goal.loop-chunk-preserved
loop-chunk-preserved g c =
    let answered = rw c.in-Ok-Chunk.field-0-is at c.in-Ok-Chunk.ensures.answered in
    let inv = c.loop-chunk.invariant in
    let fine = sym c.is_err.ensures.value ∙ c.if-is_err.false in
    let on = stepped c.args.queue.now c.args.run.emu.limit (shares_of c.loop-chunk.hands) (shares_of c.args.self) c.loop-chunk.emu c.next_chunk.new.self c.in-Ok-Chunk.chunk c.add_chunk-next.new.progress c.add_chunk-next.result.0 inv.same inv.most answered.0 answered.1 inv.serving.shares
    (had_memory c.add_chunk-next.result.1 _ fine c.add_chunk-next.ensures.progress) c.add_chunk-next.ensures.serving (had_memory c.add_chunk-next.result.1 _ fine c.add_chunk-next.ensures.pushed) in
    record { same = on.same; most = on.most; within = on.within; progress = on.progress; serving = on.serving }

pub returns-in-Err : goal.returns-in-Err
returns-in-Err g c =
    let inv = c.loop-chunk.invariant in
    led_err c.each_whole_job_once.ensures c.args.queue.now c.args.run.emu.limit (shares_of c.args.self) c.loop-chunk.emu c.next_chunk.new.self c.in-Err.end c.loop-chunk.hands inv.same inv.most inv.within c.in-Err.ensures.answered c.in-Err.ensures.ends inv.serving
