use Rattle.std.proofs.Common.{refl, ◌∙◌, sym}
use Rattle.pil_names.proofs.Registers.{Registers-repeated, Registers-fresh}
use Rattle.pil_names.proofs.register.Register.add.Goals as goal

pub returns-then-branch : goal.returns-then-branch
returns-then-branch c = λ es h. Registers-repeated c.args.self.now _ es c.args.name.now c.args.number _ c.bytes.ensures.value h c.in_ok-add.ensures.added (sym c.if-branch.true ∙ c.in_ok-add.ensures.stood) c.lesser-self.ensures

pub returns-else-branch : goal.returns-else-branch
returns-else-branch c = λ es h. Registers-fresh c.args.self.now _ es c.args.name.now c.args.number _ c.bytes.ensures.value h c.in_ok-add.ensures.added (sym c.if-branch.false ∙ c.in_ok-add.ensures.stood) refl
