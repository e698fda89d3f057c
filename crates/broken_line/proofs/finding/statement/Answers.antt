use Rattle.std.proofs.Common.{◌≡◌, List, take, map, sym, ap, ◌∙◌}
use Rattle.std.proofs.lemmas.List.{take-map}
use Rattle.pil_ast.specs.declared.tree.Space.{Space}
use Rattle.pil_ast.specs.Term.{Namespace}
use Rattle.pil_ast.specs.Tree.{namespace, namespaces}
use Rattle.pil_print.specs.Printed.{printed}
use Rattle.broken_line.specs.Cut.{front, skip}
use Rattle.broken_line.specs.Texts.{behind_spaces}
use Rattle.broken_line.proofs.finding.statement.Goals as goal

pub returns : goal.returns
returns c =
    let ns = namespaces c.args.pil.now in
    let s = c.args.place.now.space in
    let k = c.args.place.now.item in
    let before : map namespace (take s c.as_slice.result.now) ≡ take s ns = ap (λ (all : List Space). map namespace (take s all)) c.as_slice.ensures ∙ sym (take-map namespace s c.args.pil.now.spaces) in
    let rest : c.behind_all.result.now ≡ behind_spaces (take s ns) (printed ns) =
    c.behind_all.ensures ∙ ap (λ (all : List Namespace). behind_spaces all c.args.text.now) before ∙ ap (behind_spaces (take s ns)) c.requires.text in
    c.first_line.ensures ∙ ap front (c.behind_lines.ensures ∙ ap (skip k) (c.behind_lines-rest.ensures ∙ ap (skip 1) rest))
