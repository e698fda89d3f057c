use Rattle.std.proofs.Common.{◌<◌, length, sym, ap, subst, ◌∙◌}
use Rattle.std.proofs.lemmas.List.{length-map}
use Rattle.pil_ast.specs.Tree.{namespace}
use Rattle.pil_ast.proofs.Trees.{space-here}
use Rattle.pil_ast.proofs.tree.Pil.rows.Goals as goal

pub returns : goal.returns
returns c =
    let within : c.args.space < length c.args.self.now.spaces = subst (λ n. c.args.space < n) (length-map c.args.self.now.spaces namespace) c.requires in
    let within' : c.args.space < length c.as_slice.result.now = subst (λ s. c.args.space < length s) (sym c.as_slice.ensures) within in
    ap (λ z. z.rows) (sym c.index-as_slice-space.is)
    ∙ sym (ap (λ n. n.rows) (space-here c.args.self.now.spaces c.as_slice.result.now c.args.space c.index-as_slice-space.result c.as_slice.ensures within' c.index-as_slice-space.is))
