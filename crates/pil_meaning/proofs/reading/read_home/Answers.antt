use Rattle.std.proofs.Common.{◌≡◌, map, All, sym, subst, ◌∙◌}
use Rattle.pil_names.specs.Shown.{outlined, draft}
use Rattle.pil_meaning.specs.Meaning.{read_draft}
use Rattle.pil_meaning.specs.Fitting.{FitsLine}
use Rattle.pil_meaning.proofs.Mapped.{all-mapped, map-twice, same-space}
use Rattle.pil_meaning.proofs.reading.read_home.Goals as goal

pub read_items-requires-clause-fits : goal.read_items-requires-clause-fits
read_items-requires-clause-fits c =
    let o = outlined c.args.outline.now in
    let s = c.args.number in
    subst (All (λ d. FitsLine (read_draft o s (draft d)))) (sym c.as_slice-drafts.ensures)
    (all-mapped (λ d. FitsLine (read_draft o s d)) draft c.args.home.now.items (all-mapped FitsLine (read_draft o s) (map draft c.args.home.now.items) c.requires.fits.items))

pub returns : goal.returns
returns c =
    let o = outlined c.args.outline.now in
    let s = c.args.number in
    same-space _ _ _ _ _ _ (c.in_ok-name.ensures ∙ c.bytes.ensures.value) c.rows-rows.ensures
    (c.in_ok-items.ensures ∙ subst (λ ds. map (λ d. read_draft o s (draft d)) ds ≡ map (read_draft o s) (map draft c.args.home.now.items)) (sym c.as_slice-drafts.ensures) (sym (map-twice (read_draft o s) draft c.args.home.now.items)))
