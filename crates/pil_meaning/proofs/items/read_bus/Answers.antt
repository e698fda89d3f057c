use Rattle.std.proofs.Common.{List, map, sym, ap, ◌∙◌}
use Rattle.pil_syntax.specs.Shown.{tuple}
use Rattle.pil_ast.specs.Tree.{tuples}
use Rattle.pil_ast.specs.Term.{Tuples, bus}
use Rattle.pil_names.specs.Shown.{outlined}
use Rattle.pil_meaning.specs.Meaning.{read_tuple}
use Rattle.pil_meaning.specs.Fitting.{FitsList}
use Rattle.pil_meaning.proofs.Mapped.{all-mapped, map-twice}
use Rattle.pil_meaning.proofs.items.read_bus.Goals as goal

pub read_lists-requires-clause-fits : goal.read_lists-requires-clause-fits
read_lists-requires-clause-fits c =
    let o = outlined c.args.outline.now in
    let s = c.args.home in
    all-mapped (λ l. FitsList (read_tuple o s l)) tuple c.args.left.now (all-mapped FitsList (read_tuple o s) (map tuple c.args.left.now) c.requires.fits.0)

pub read_lists-requires-2-clause-fits : goal.read_lists-requires-2-clause-fits
read_lists-requires-2-clause-fits c =
    let o = outlined c.args.outline.now in
    let s = c.args.home in
    all-mapped (λ l. FitsList (read_tuple o s l)) tuple c.args.right.now (all-mapped FitsList (read_tuple o s) (map tuple c.args.right.now) c.requires.fits.1)

pub returns : goal.returns
returns c =
    let o = outlined c.args.outline.now in
    let s = c.args.home in
    ap (λ (ls : List Tuples). bus ls (map tuples c.in_ok-right.right)) (c.in_ok-left.ensures ∙ sym (map-twice (read_tuple o s) tuple c.args.left.now))
    ∙ ap (λ (rs : List Tuples). bus (map (read_tuple o s) (map tuple c.args.left.now)) rs) (c.in_ok-right.ensures ∙ sym (map-twice (read_tuple o s) tuple c.args.right.now))
