use Rattle.std.proofs.Common.{sym, ap}
use Rattle.pil_names.proofs.Places.{constant_at-there}
use Rattle.pil_names.proofs.Lookups.{constant-past}
use Rattle.pil_names.proofs.unknown.constant_place.Goals as goal

pub returns-in-Some : goal.returns-in-Some
returns-in-Some c =
    let h = c.in-Some.ensures in
    sym (ap (λ x. x.name.at) (constant_at-there c.args.outline.now.constants c.args.constant c.in-Some.declared.now (sym h.value)))

pub returns-in-None : goal.returns-in-None
returns-in-None c =
    let h = c.in-None.ensures in
    sym (ap (λ x. x.name.at) (constant-past c.args.outline.now.constants c.args.constant (sym h.value)))
