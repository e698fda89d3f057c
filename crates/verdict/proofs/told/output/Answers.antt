use Rattle.std.proofs.Common.{◌≡◌, ◌+◌, ◌*◌, ◌≤◌, length, take, arith, refl, ap, ◌∙◌}
use Rattle.verdict.specs.Told.{told_bytes}
use Rattle.verdict.proofs.Bytes.{bytes_step, bytes_all}
use Rattle.verdict.proofs.told.output.Goals as goal

pub loop-i-init : goal.loop-i-init
unfolding told_bytes
loop-i-init c = (refl, refl)

pub loop-i-preserved : goal.loop-i-preserved
loop-i-preserved c =
    let v = c.args.table.now in
    let room : 8 * c.loop-i.i + 8 ≤ length c.loop-i.output = omega arith in
    let next : take (8 * (c.loop-i.i + 1)) c.set_bytes.new.output ≡ told_bytes v (c.loop-i.i + 1) =
    ap (take (8 * (c.loop-i.i + 1))) c.set_bytes.ensures.bytes ∙ bytes_step v c.loop-i.output _ c.loop-i.i room refl (rw c.number-value.ensures refl) c.loop-i.invariant.1 in
    (c.set_bytes.ensures.long, next)

pub returns : goal.returns
returns c = bytes_all c.args.table.now c.loop-i.output c.loop-i.i (omega arith) c.loop-i.invariant.0 c.loop-i.invariant.1
