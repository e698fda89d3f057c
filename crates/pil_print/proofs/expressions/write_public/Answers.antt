use Rattle.std.proofs.Common.{◌≡◌, ◌<◌, List, get_or, Bor, ap, sym, subst, ◌∙◌, arith, append_assoc, length}
use Rattle.pil_ast.specs.declared.tree.Item.{Item}
use Rattle.pil_ast.specs.Tree.{line}
use Rattle.pil_ast.specs.Term.{Line, item_at}
use Rattle.std.proofs.lemmas.List.{length-map}
use Rattle.pil_print.specs.Statements.{name_of, published}
use Rattle.pil_print.specs.Tables.{text_names}
use Rattle.pil_print.proofs.Starts.{item-here}
use Rattle.pil_print.proofs.expressions.write_public.Goals as goal

pub bounds-as_slice-number : goal.bounds-as_slice-number
bounds-as_slice-number c = omega (arith, c.requires.number, ap length c.requires.names.publics, length-map c.args.names.now.publics (λ (i : Bor Item). line i.now), ap length c.as_slice.ensures)

pub returns : goal.returns
returns c =
    let ps = c.args.names.now.publics in
    let within : c.args.number < length ps = omega (arith, c.requires.number, ap length c.requires.names.publics, length-map c.args.names.now.publics (λ (i : Bor Item). line i.now)) in
    let at = subst (λ xs. c.index-as_slice-number.result ≡ get_or xs c.args.number c.index-as_slice-number.result) c.as_slice.ensures c.index-as_slice-number.is in
    let same : name_of (line c.index-as_slice-number.result.now) ≡ name_of (item_at (published (text_names c.args.names.now)) c.args.number)
    = ap name_of (sym (item-here (λ (i : Bor Item). line i.now) ps c.args.number c.index-as_slice-number.result within at) ∙ ap (λ (ls : List Line). item_at ls c.args.number) c.requires.names.publics) in
    simp (c.in_ok-write_name.ensures, c.in_ok-extend_from_slice.ensures.items, append_assoc, same)
