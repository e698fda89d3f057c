use Rattle.std.proofs.Common.{◌≡◌, ◌<◌, ◌++◌, get_or, ap, sym, subst, ◌∙◌, arith, length, None}
use Rattle.std.specs.Prelude.{OnOk}
use Rattle.std.proofs.lemmas.List.{length-map}
use Rattle.pil_ast.specs.declared.tree.Space.{Space}
use Rattle.pil_ast.specs.Tree.{line, namespace}
use Rattle.pil_ast.specs.Term.{Line, Namespace, space_at, item_at}
use Rattle.pil_print.specs.Statements.{reference_to}
use Rattle.pil_print.specs.Printed.{reference_text}
use Rattle.pil_print.specs.Tables.{text_names}
use Rattle.pil_print.proofs.Starts.{space-here, item-here}
use Rattle.pil_print.proofs.expressions.write_inter.Goals as goal

pub bounds-as_slice-item : goal.bounds-as_slice-item
bounds-as_slice-item c =
    let ss = c.args.names.now.spaces.now in
    let within : c.args.space < length ss = omega (arith, c.requires.0, length-map c.args.names.now.spaces.now namespace) in
    let space = space-here namespace ss c.args.space c.index-names-space.result within c.index-names-space.is in
    omega (arith, c.requires.1, ap (λ (n : Namespace). length n.items) space, length-map c.index-names-space.result.items line, ap length (c.as_slice.ensures ∙ ap (λ (y : Space). y.items) (sym c.index-names-space.is)))

pub returns : goal.returns
returns c =
    let ss = c.args.names.now.spaces.now in
    let ns = text_names c.args.names.now in
    let within : c.args.space < length ss = omega (arith, c.requires.0, length-map c.args.names.now.spaces.now namespace) in
    let space = space-here namespace ss c.args.space c.index-names-space.result within c.index-names-space.is in
    let is = c.index-names-space.result.items in
    let inside : c.args.item < length is = omega (arith, c.requires.1, ap (λ (n : Namespace). length n.items) space, length-map c.index-names-space.result.items line) in
    let at = subst (λ xs. c.index-as_slice-item.result ≡ get_or xs c.args.item c.index-as_slice-item.result) (c.as_slice.ensures ∙ ap (λ (y : Space). y.items) (sym c.index-names-space.is)) c.index-as_slice-item.is in
    let same : line c.index-as_slice-item.result ≡ item_at (space_at (text_names c.args.names.now) c.args.space).items c.args.item
    = sym (ap (λ (n : Namespace). item_at n.items c.args.item) space ∙ item-here line is c.args.item c.index-as_slice-item.result inside at) in
    subst (λ (l : Line). OnOk c.write_reference.result (c.write_reference.new.text.items ≡ c.args.text.now.items ++ reference_text (reference_to ns c.args.space l None c.args.next))) same c.write_reference.ensures
