use Rattle.std.proofs.Common.{◌<◌, ◌≡◌, length, get_or, sym, ap, ◌∙◌, arith, List}
use Rattle.std.proofs.lemmas.List.{length-map}
use Rattle.pil_ast.specs.declared.tree.Space.{Space}
use Rattle.pil_ast.specs.Tree.{namespace}
use Rattle.broken_line.proofs.Placed.{space-here}
use Rattle.broken_line.proofs.finding.space_name.Goals as goal

pub returns : goal.returns
returns c =
    let spaces = c.args.pil.now.spaces in
    let at = c.args.place.now.space in
    let x = c.index-as_slice-place.result in
    let long = length-map spaces namespace in
    let inside : at < length spaces = let l = c.requires.space in omega arith in
    let is : x ≡ get_or spaces at x = c.index-as_slice-place.is ∙ ap (λ (all : List Space). get_or all at x) c.as_slice.ensures in
    c.as_slice-2.ensures ∙ ap (λ y. y.name) (sym c.index-as_slice-place.is) ∙ ap (λ n. n.name) (sym (space-here spaces at x inside is))
