use Rattle.std.proofs.Common.{◌∙◌, ◌++◌, ◌∷◌, [], map, take, sym, ap, subst}
use Rattle.pil_names.specs.Finding.{polynomials_from}
use Rattle.pil_names.specs.Directory.{Registers}
use Rattle.pil_names.specs.Shown.{draft}
use Rattle.pil_names.proofs.Registers.{polynomials-take}
use Rattle.pil_names.proofs.register.register_polynomials.Goals as goal

pub loop-number-preserved : goal.loop-number-preserved
loop-number-preserved c =
    let xs = c.args.items.now in
    let i = c.loop-number.number in
    let step = polynomials-take xs i c.index-items-number.result c.loop-number-test.true in
    let same = ap (λ x. polynomials_from 0 (map draft (take i xs)) ++ polynomials_from i (draft x ∷ [])) c.index-items-number.is in
    subst (Registers c.add_polynomial.new.self) (same ∙ sym step) (c.in_ok-add_polynomial.ensures _ c.loop-number.invariant)
