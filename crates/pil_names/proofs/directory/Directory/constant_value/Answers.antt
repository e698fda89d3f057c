use Rattle.std.proofs.Common.{◌∙◌, sym, ap}
use Rattle.pil_names.proofs.Places.{constant_at-there, constant_at-none}
use Rattle.pil_names.specs.Shown.{outlined}
use Rattle.pil_names.specs.Wrongs.{value_of_constant}
use Rattle.pil_names.proofs.directory.Directory.constant_value.Goals as goal

pub returns-in-Some-get : goal.returns-in-Some-get
returns-in-Some-get c =
    let o = c.args.outline.now in
    let e = constant_at-there o.constants _ _ (sym c.in-Some-get.ensures.value) in
    sym (ap (value_of_constant (outlined o)) (sym c.in-Some.ensures) ∙ ap (λ n. n.value.value) e)

pub returns-in-None-get : goal.returns-in-None-get
returns-in-None-get c =
    let o = c.args.outline.now in
    let e = constant_at-none o.constants _ (sym c.in-None-get.ensures.value) in
    sym (ap (value_of_constant (outlined o)) (sym c.in-Some.ensures) ∙ e)
