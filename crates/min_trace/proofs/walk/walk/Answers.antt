use Rattle.std.proofs.Common.{◌+◌, length, ap, ◌∙◌}
use Rattle.min_trace.specs.Record.{old_of, old_at, record_of}
use Rattle.min_trace.proofs.Steps.{there_at, instruction_at, access_at, good_found, room_found, mem_is, applied}
use Rattle.min_trace.proofs.walk.walk.Goals as goal

pub instruction-instr-requires : goal.instruction-instr-requires
instruction-instr-requires c = there_at c.args.image.now c.args.step c.args.cpu.now c.requires.cpu c.requires.good

pub act_at-mem-requires-clause-good : goal.act_at-mem-requires-clause-good
act_at-mem-requires-clause-good c =
    let t = instruction_at c.args.image.now c.args.step c.args.cpu.now c.instruction-instr.result c.requires.cpu c.requires.good c.instruction-instr.ensures in
    let a = access_at c.args.image.now c.args.step c.args.cpu.now c.instruction-instr.result c.access-access.result c.requires.cpu c.access-access.ensures in
    good_found _ _ _ _ t a

pub act_at-mem-requires-clause-room : goal.act_at-mem-requires-clause-room
act_at-mem-requires-clause-room c =
    let t = instruction_at c.args.image.now c.args.step c.args.cpu.now c.instruction-instr.result c.requires.cpu c.requires.good c.instruction-instr.ensures in
    let a = access_at c.args.image.now c.args.step c.args.cpu.now c.instruction-instr.result c.access-access.result c.requires.cpu c.access-access.ensures in
    room_found _ _ _ _ c.args.olds.now c.args.at t a c.requires.olds

pub returns-clause-made : goal.returns-clause-made
returns-clause-made c =
    let t = instruction_at c.args.image.now c.args.step c.args.cpu.now c.instruction-instr.result c.requires.cpu c.requires.good c.instruction-instr.ensures in
    let a = access_at c.args.image.now c.args.step c.args.cpu.now c.instruction-instr.result c.access-access.result c.requires.cpu c.access-access.ensures in
    let m = mem_is _ _ _ _ c.args.olds.now c.args.at c.act_at-mem.result t a c.requires.olds c.act_at-mem.ensures in
    let w = applied _ _ c.args.cpu.now _ _ c.old_in.result c.apply-answer.result c.apply-answer.new.self c.requires.cpu c.requires.good t m c.old_in.ensures c.apply-answer.ensures.does c.apply-answer.ensures.kept in
    c.record_of-made.ensures ∙ ap (λ n. record_of c.args.step c.instruction-instr.result c.args.cpu.now c.act_at-mem.result c.apply-answer.new.self n) c.next_of.ensures ∙ w.made

pub returns-clause-cpu : goal.returns-clause-cpu
returns-clause-cpu c =
    let t = instruction_at c.args.image.now c.args.step c.args.cpu.now c.instruction-instr.result c.requires.cpu c.requires.good c.instruction-instr.ensures in
    let a = access_at c.args.image.now c.args.step c.args.cpu.now c.instruction-instr.result c.access-access.result c.requires.cpu c.access-access.ensures in
    let m = mem_is _ _ _ _ c.args.olds.now c.args.at c.act_at-mem.result t a c.requires.olds c.act_at-mem.ensures in
    let w = applied _ _ c.args.cpu.now _ _ c.old_in.result c.apply-answer.result c.apply-answer.new.self c.requires.cpu c.requires.good t m c.old_in.ensures c.apply-answer.ensures.does c.apply-answer.ensures.kept in
    w.new

pub returns-clause-used : goal.returns-clause-used
unfolding old_at
returns-clause-used c =
    let t = instruction_at c.args.image.now c.args.step c.args.cpu.now c.instruction-instr.result c.requires.cpu c.requires.good c.instruction-instr.ensures in
    let a = access_at c.args.image.now c.args.step c.args.cpu.now c.instruction-instr.result c.access-access.result c.requires.cpu c.access-access.ensures in
    let m = mem_is _ _ _ _ c.args.olds.now c.args.at c.act_at-mem.result t a c.requires.olds c.act_at-mem.ensures in
    ap (λ n. c.args.at + n) (c.used.ensures.value ∙ ap (λ k. length (old_of k)) m)
