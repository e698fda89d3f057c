use Rattle.std.proofs.Common.{◌≡◌, map, All, sym, subst, ◌∙◌}
use Rattle.pil_syntax.specs.Shown.{term as term_of}
use Rattle.pil_names.specs.Shown.{outlined}
use Rattle.pil_meaning.specs.Meaning.{read_term}
use Rattle.pil_meaning.specs.Fitting.{FitsTerm}
use Rattle.pil_meaning.proofs.Mapped.{all-mapped, map-twice, same-tuples}
use Rattle.pil_meaning.proofs.items.read_list.Goals as goal

pub read_exprs-requires-clause-fits : goal.read_exprs-requires-clause-fits
read_exprs-requires-clause-fits c =
    let o = outlined c.args.outline.now in
    let s = c.args.home in
    subst (All (λ e. FitsTerm (read_term o s (term_of e)))) (sym c.as_slice-entries.ensures)
    (all-mapped (λ e. FitsTerm (read_term o s e)) term_of c.args.list.now.entries (all-mapped FitsTerm (read_term o s) (map term_of c.args.list.now.entries) c.requires.fits.terms))

pub returns : goal.returns
returns c =
    let o = outlined c.args.outline.now in
    let s = c.args.home in
    same-tuples _ _ _ _ _ _ c.home_of_list-space.ensures c.in_ok-sel.ensures
    (c.in_ok-exprs.ensures ∙ subst (λ es. map (λ e. read_term o s (term_of e)) es ≡ map (read_term o s) (map term_of c.args.list.now.entries)) (sym c.as_slice-entries.ensures) (sym (map-twice (read_term o s) term_of c.args.list.now.entries)))
