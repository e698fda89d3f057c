use Rattle.std.proofs.Common.{sym, ap, ◌∙◌}
use Rattle.pil_names.specs.Wrongs.{rows_of}
use Rattle.pil_names.specs.Shown.{outlined}
use Rattle.pil_names.proofs.Lookups.{home-within, home-missing}
use Rattle.pil_names.proofs.rows.rows_of_home.Goals as goal

pub returns-in-Some : goal.returns-in-Some
returns-in-Some c =
    let h = c.in-Some.ensures in
    let o = c.args.outline.now in
    c.rows.ensures ∙ sym (ap (λ x. rows_of (outlined o) x.size) (home-within o.homes c.args.home c.in-Some.space.now (sym h.value)))

pub returns-in-None : goal.returns-in-None
returns-in-None c =
    let h = c.in-None.ensures in
    let o = c.args.outline.now in
    sym (ap (λ x. rows_of (outlined o) x.size) (home-missing o.homes c.args.home (sym h.value)))
