use Rattle.std.proofs.Common.{sym, ap, ◌∙◌, option_map, slice_get}
use Rattle.std.proofs.lemmas.Option.{slice_get-map}
use Rattle.pil_names.specs.Shown.{draft}
use Rattle.pil_names.proofs.Lookups.{home-within, home-missing}
use Rattle.pil_names.proofs.unknown.item_at.Goals as goal

pub returns-in-Some : goal.returns-in-Some
returns-in-Some c =
    let h = c.in-Some.ensures in
    let at = home-within c.args.outline.now.homes c.args.home c.in-Some.space.now (sym h.value) in
    ap (option_map draft) (c.copied.ensures ∙ c.get-in-Some.ensures.value)
    ∙ sym (slice_get-map draft c.in-Some.space.now.items c.args.item)
    ∙ sym (ap (λ x. slice_get x.items c.args.item) at)

pub returns-in-None : goal.returns-in-None
returns-in-None c =
    let h = c.in-None.ensures in
    sym (ap (λ x. slice_get x.items c.args.item) (home-missing c.args.outline.now.homes c.args.home (sym h.value)))
