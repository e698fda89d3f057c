use Rattle.std.proofs.Common.{◌≡◌, ◌/◌, ◌%◌, sym, subst, ◌∙◌, ap}
use Rattle.rv_model.specs.Align.{aligned}
use Rattle.rv_model.specs.Bytes.{ActsOnBytes}
use Rattle.rv_model.proofs.ByteMemory.{acts_on_bytes}
use Rattle.rv_model.proofs.access.Access.result.Goals as goal

pub returns-clause-bytes : goal.returns-clause-bytes
returns-clause-bytes c word here =
    let touch = c.args.self.now in
    let is : c.align.result ≡ aligned touch.kind (touch.address % 8) (word (touch.address / 8)) touch.value =
    c.align.ensures ∙ ap (λ o. aligned touch.kind o c.args.old touch.value) c.offset.ensures.offset ∙ ap (λ v. aligned touch.kind (touch.address % 8) v touch.value) (sym here) in
    subst (ActsOnBytes touch.kind touch.address touch.value word) (sym is) (acts_on_bytes touch.kind touch.address touch.value word c.requires.0)
