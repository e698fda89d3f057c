use Rattle.std.proofs.Common.{◌≡◌, ◌<◌, ◌+◌, ◌++◌, length, set, sym, ◌∙◌, ap, arith, length-append, length-set}
use Rattle.pil_program.proofs.Lanes.{values-more}
use Rattle.pil_program.proofs.running.run.Goals as goal

pub loop-number-preserved : goal.loop-number-preserved
loop-number-preserved g c =
    let cs = g.C.Columns.values c.args.columns.now in
    let x = c.args.stretch.now in
    let done = c.split_at_mut-done.result.0.now in
    let rest = c.split_at_mut-done.result.1.now in
    let long : length done ≡ c.loop-number.number = c.split_at_mut-done.ensures.front_len in
    let whole : c.loop-number.blocks ≡ done ++ rest = c.split_at_mut-done.ensures.value in
    let all : length c.loop-number.blocks ≡ length done + length rest = ap length whole ∙ length-append done rest in
    let room : 0 < length rest = omega (arith, c.loop-number.invariant.0, c.requires.room, c.loop-number-test.true) in (
      length-append done (set rest 0 c.run_step.new.out) ∙ ap (λ n. length done + n) (length-set rest 0 c.run_step.new.out) ∙ sym all ∙ c.loop-number.invariant.0,
      λ j l. values-more cs x.space x.instance _ _ c.loop-number.number c.args.nodes.now c.index-nodes-number.result c.loop-number.blocks done rest c.run_step.new.out j
          c.requires.program c.loop-number-test.true c.index-nodes-number.is whole long room (c.loop-number.invariant.1 j l) (c.run_step.ensures j l),
    )
