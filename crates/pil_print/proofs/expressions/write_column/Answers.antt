use Rattle.std.proofs.Common.{◌≡◌, ◌<◌, ◌++◌, get_or, map, Bor, ap, sym, subst, ◌∙◌, arith, length}
use Rattle.std.specs.Prelude.{OnOk}
use Rattle.pil_ast.specs.declared.tree.Item.{Item}
use Rattle.pil_ast.specs.Tree.{line}
use Rattle.pil_ast.specs.Term.{space_at, width}
use Rattle.pil_print.specs.Printed.{reference_text}
use Rattle.pil_print.specs.Tables.{text_names, firsts_from}
use Rattle.pil_print.proofs.Starts.{got, width-declared, column-same}
use Rattle.pil_print.proofs.expressions.write_column.Goals as goal

pub spot-spot-requires-clause-table : goal.spot-spot-requires-clause-table
spot-spot-requires-clause-table c =
    let ts = c.args.names.now.columns in
    let at = subst (λ xs. c.index-as_slice-space.result ≡ get_or xs c.args.space c.index-as_slice-space.result) c.as_slice.ensures c.index-as_slice-space.is in
    let within : c.args.space < length ts = omega (arith, c.requires.names.spaces, c.requires.column.0) in
    let t = c.requires.names.columns c.args.space c.index-as_slice-space.result (got ts c.args.space c.index-as_slice-space.result within at) in
    t.firsts ∙ ap (firsts_from 0) (sym t.items)

pub spot-spot-requires-clause-within : goal.spot-spot-requires-clause-within
spot-spot-requires-clause-within c =
    let ts = c.args.names.now.columns in
    let at = subst (λ xs. c.index-as_slice-space.result ≡ get_or xs c.args.space c.index-as_slice-space.result) c.as_slice.ensures c.index-as_slice-space.is in
    let within : c.args.space < length ts = omega (arith, c.requires.names.spaces, c.requires.column.0) in
    let t = c.requires.names.columns c.args.space c.index-as_slice-space.result (got ts c.args.space c.index-as_slice-space.result within at) in
    omega (arith, c.requires.column.1, ap width t.items, width-declared (space_at (text_names c.args.names.now) c.args.space).items)

pub returns : goal.returns
returns c =
    let ns = text_names c.args.names.now in
    let ts = c.args.names.now.columns in
    let at = subst (λ xs. c.index-as_slice-space.result ≡ get_or xs c.args.space c.index-as_slice-space.result) c.as_slice.ensures c.index-as_slice-space.is in
    let within : c.args.space < length ts = omega (arith, c.requires.names.spaces, c.requires.column.0) in
    let t = c.requires.names.columns c.args.space c.index-as_slice-space.result (got ts c.args.space c.index-as_slice-space.result within at) in
    subst (λ r. OnOk c.write_reference.result (c.write_reference.new.text.items ≡ c.args.text.now.items ++ reference_text r))
    (column-same ns c.args.space c.args.column c.args.next (map (λ (i : Bor Item). line i.now) c.index-as_slice-space.result.items) _ c.spot-spot.result.index _ t.items c.spot-spot.ensures.item c.spot-spot.ensures.index c.index_of.ensures)
    c.write_reference.ensures
