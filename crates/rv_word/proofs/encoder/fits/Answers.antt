use Rattle.std.proofs.Common.{subst, arith}
use Rattle.rv_word.specs.Is.{Is}
use Rattle.rv_word.specs.declared.instr.Instr.{Instr}
use Rattle.rv_word.proofs.Encoding.{encoding-stands}
use Rattle.rv_word.proofs.encoder.fits.Goals as goal

pub returns-in-Some : goal.returns-in-Some
returns-in-Some c = (
  λ yes. (c.encoded.result, omega arith, subst (λ (i : Instr). Is c.encoded.result i) (c.same.ensures.0 yes) c.in-Some.ensures.found),
  λ fits. let known = c.in-Some.ensures.only c.args.i.now (rw c.encoded.ensures (encoding-stands c.args.i.now fits)) in c.same.ensures.1 (cc known),
)

pub returns-in-None : goal.returns-in-None
returns-in-None c = (
  λ yes. absurd (cc yes),
  λ fits. let known = c.in-None.ensures.only c.args.i.now (rw c.encoded.ensures (encoding-stands c.args.i.now fits)) in absurd (cc known),
)
