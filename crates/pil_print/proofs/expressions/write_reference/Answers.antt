use Rattle.std.proofs.Common.{◌≡◌, ◌<◌, ap, sym, ◌∙◌, arith, append_assoc, length}
use Rattle.pil_ast.specs.declared.tree.Space.{Space}
use Rattle.pil_ast.specs.Tree.{namespace}
use Rattle.pil_ast.specs.Term.{Namespace, space_at}
use Rattle.std.proofs.lemmas.List.{length-map}
use Rattle.pil_print.specs.Tables.{text_names}
use Rattle.pil_print.proofs.Starts.{space-here}
use Rattle.pil_print.proofs.expressions.write_reference.Goals as goal

pub returns : goal.returns
returns c =
    let ss = c.args.names.now.spaces.now in
    let within : c.args.space < length ss = omega (arith, c.requires, length-map c.args.names.now.spaces.now namespace) in
    let same : c.as_slice.result.now ≡ (space_at (text_names c.args.names.now) c.args.space).name
    = c.as_slice.ensures ∙ ap (λ (y : Space). y.name) (sym c.index-names-space.is) ∙ sym (ap (λ (n : Namespace). n.name) (space-here namespace ss c.args.space c.index-names-space.result within c.index-names-space.is)) in
    simp (c.in_ok-write_mark.ensures, c.in_ok-write_index.ensures, c.in_ok-write_name.ensures, c.in_ok-extend_from_slice-2.ensures.items, c.in_ok-extend_from_slice.ensures.items, append_assoc, same)
