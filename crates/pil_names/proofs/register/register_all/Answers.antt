use Rattle.std.proofs.Common.{◌∙◌, ◌++◌, ◌∷◌, [], map, take, sym, ap, subst}
use Rattle.pil_names.specs.Finding.{numbered}
use Rattle.pil_names.specs.Directory.{Registers}
use Rattle.pil_names.proofs.Registers.{numbered-take}
use Rattle.pil_names.proofs.register.register_all.Goals as goal

pub loop-number-preserved : goal.loop-number-preserved
loop-number-preserved c =
    let xs = c.args.names.now in
    let i = c.loop-number.number in
    let step = numbered-take (λ x. x.now) xs i c.index-names-number.result c.loop-number-test.true in
    let same = ap (λ x. numbered 0 (map (λ y. y.now) (take i xs)) ++ record { name = x.now; number = i } ∷ []) c.index-names-number.is in
    subst (Registers c.add.new.self) (same ∙ sym step) (c.in_ok-add.ensures _ c.loop-number.invariant)
