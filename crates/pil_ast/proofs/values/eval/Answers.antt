use Rattle.std.proofs.Common.{◌<◌, ◌≤◌, All, length, get_or, sym, ◌∙◌, ap, subst}
use Rattle.pil_ast.specs.Tree.{namespaces, term}
use Rattle.pil_ast.specs.Term.{space_at, publics}
use Rattle.pil_ast.specs.Value.{row_after, around}
use Rattle.pil_ast.specs.Reading.{IsPlaceIn, IsReadable}
use Rattle.pil_ast.proofs.Limits.{places-in, item-term}
use Rattle.pil_ast.proofs.Known.{rows-at, position-at, readable, eval_value}
use Rattle.pil_ast.proofs.Out.{is_value}
use Rattle.pil_ast.proofs.values.eval.Goals as goal

pub next_row-requires : goal.next_row-requires
next_row-requires g c =
    subst (λ n. c.args.row < n) (sym (rows-at c.args.pil.now.spaces c.as_slice.result.now c.args.inters.now.space c.index-as_slice-inters.result (g.C.Columns.values c.args.columns.now) c.as_slice.ensures c.requires.fits c.requires.space c.index-as_slice-inters.is)) c.requires.row

pub read-requires-clause-reader : goal.read-requires-clause-reader
read-requires-clause-reader g c = record {
  position = position-at (g.C.Columns.values c.args.columns.now) c.args.inters.now.space c.args.instance c.args.row c.next_row.result (get_or c.as_slice.result.now c.args.inters.now.space c.index-as_slice-inters.result).rows c.requires.space c.requires.instance c.requires.row
      (rows-at c.args.pil.now.spaces c.as_slice.result.now c.args.inters.now.space c.index-as_slice-inters.result (g.C.Columns.values c.args.columns.now) c.as_slice.ensures c.requires.fits c.requires.space c.index-as_slice-inters.is) c.next_row.ensures;
  as_long = ap length c.as_slice-3.ensures ∙ c.requires.made.as_long ∙ ap length (sym c.as_slice-2.ensures);
  publics = subst (All (IsPlaceIn (g.C.Columns.values c.args.columns.now))) (sym (c.as_slice-4.ensures ∙ c.requires.made.publics)) (places-in (namespaces c.args.pil.now) (g.C.Columns.values c.args.columns.now) c.requires.sound c.requires.fits);
}

pub read-requires-clause-readable : goal.read-requires-clause-readable
read-requires-clause-readable g c =
    let inside : c.args.inters.now.space < length (namespaces c.args.pil.now) = subst (λ n. c.args.inters.now.space < n) c.requires.fits.spaces c.requires.space in
    let room : length (space_at (namespaces c.args.pil.now) c.args.inters.now.space).items ≤ length c.as_slice-2.result.now = subst (λ h. length (space_at (namespaces c.args.pil.now) c.args.inters.now.space).items ≤ length h) (sym c.as_slice-2.ensures) (c.requires.made.room c.args.inters.now.space inside) in
    subst (λ m. IsReadable (g.C.Columns.values c.args.columns.now) c.args.inters.now.space (length c.as_slice-2.result.now) (length m) (term c.args.expr.now)) (sym (c.as_slice-4.ensures ∙ c.requires.made.publics))
    (readable (namespaces c.args.pil.now) (g.C.Columns.values c.args.columns.now) c.args.inters.now.space (length c.as_slice-2.result.now) (term c.args.expr.now) (c.requires.fits.width c.args.inters.now.space inside) room c.requires.term)

pub returns-clause-value : goal.returns-clause-value
returns-clause-value g c =
    eval_value (namespaces c.args.pil.now) (g.C.Columns.values c.args.columns.now) (record { space = c.args.inters.now.space; instance = c.args.instance; row = c.args.row; after = c.next_row.result }) c.args.inters.now.here c.args.inters.now.next c.as_slice-2.result.now c.as_slice-3.result.now c.as_slice-4.result.now (term c.args.expr.now) c.read.result
    (c.next_row.ensures ∙ ap (λ n. row_after n c.args.row) (rows-at c.args.pil.now.spaces c.as_slice.result.now c.args.inters.now.space c.index-as_slice-inters.result (g.C.Columns.values c.args.columns.now) c.as_slice.ensures c.requires.fits c.requires.space c.index-as_slice-inters.is))
    c.requires.filled.values c.requires.term c.as_slice-2.ensures c.as_slice-3.ensures (c.as_slice-4.ensures ∙ c.requires.made.publics) c.read.ensures

pub returns-clause-written : goal.returns-clause-written
returns-clause-written g c =
    let inside : c.args.inters.now.space < length (namespaces c.args.pil.now) = subst (λ n. c.args.inters.now.space < n) c.requires.fits.spaces c.requires.space in
    let space = c.requires.sound.spaces c.args.inters.now.space inside in
    is_value (space_at (namespaces c.args.pil.now) c.args.inters.now.space).items (length (publics (namespaces c.args.pil.now))) c.args.inters.now.space (around (namespaces c.args.pil.now) (g.C.Columns.values c.args.columns.now) c.args.inters.now.space c.args.instance c.args.row) (term c.args.expr.now) c.read.result space.acyclic
    (λ k. item-term (namespaces c.args.pil.now) c.args.inters.now.space (space_at (namespaces c.args.pil.now) c.args.inters.now.space).items k space.items) c.requires.term (returns-clause-value g c)
