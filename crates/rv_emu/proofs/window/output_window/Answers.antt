use Rattle.std.proofs.Common.{◌≡◌, ◌+◌, ◌*◌, ◌≤◌, ℕ, length, take, arith, refl, ap, ◌∙◌}
use Rattle.rv_model.specs.Run.{window}
use Rattle.mem_pages.specs.Memory.{word_of}
use Rattle.rv_emu.proofs.Windows.{window_step, window_all}
use Rattle.rv_emu.proofs.window.output_window.Goals as goal

pub loop-i-init : goal.loop-i-init
unfolding window
loop-i-init c = (refl, refl)

pub loop-i-preserved : goal.loop-i-preserved
loop-i-preserved c =
    let word : ℕ → ℕ = word_of c.args.memory.now in
    let room : 8 * c.loop-i.i + 8 ≤ length c.loop-i.output = omega arith in
    let next : take (8 * (c.loop-i.i + 1)) c.set_bytes.new.output ≡ window word (c.loop-i.i + 1) =
    ap (take (8 * (c.loop-i.i + 1))) c.set_bytes.ensures.bytes ∙ window_step word c.loop-i.output _ c.loop-i.i room refl (rw c.word-value.ensures refl) c.loop-i.invariant.1 in
    (c.set_bytes.ensures.long, next)

pub returns : goal.returns
returns c =
    window_all (word_of c.args.memory.now) c.loop-i.output c.loop-i.i (omega arith) c.loop-i.invariant.0 c.loop-i.invariant.1
