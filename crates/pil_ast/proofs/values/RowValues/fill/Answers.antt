use Rattle.std.proofs.Common.{◌<◌, get_or, sym, ◌∙◌, ap, subst}
use Rattle.pil_ast.specs.Tree.{namespaces}
use Rattle.pil_ast.specs.Value.{row_after}
use Rattle.pil_ast.proofs.Known.{rows-at, position-at, plan-at}
use Rattle.pil_ast.proofs.values.RowValues.fill.Goals as goal

pub next_row-requires : goal.next_row-requires
next_row-requires g c =
    subst (λ n. c.args.row < n) (sym (rows-at c.args.pil.now.spaces c.as_slice.result.now c.args.space c.index-as_slice-space.result (g.C.Columns.values c.args.columns.now) c.as_slice.ensures c.requires.fits c.requires.space c.index-as_slice-space.is)) c.requires.row

pub fill_turns-requires-clause-position : goal.fill_turns-requires-clause-position
fill_turns-requires-clause-position g c =
    position-at (g.C.Columns.values c.args.columns.now) c.args.space c.args.instance c.args.row c.next_row.result (get_or c.as_slice.result.now c.args.space c.index-as_slice-space.result).rows c.requires.space c.requires.instance c.requires.row
    (rows-at c.args.pil.now.spaces c.as_slice.result.now c.args.space c.index-as_slice-space.result (g.C.Columns.values c.args.columns.now) c.as_slice.ensures c.requires.fits c.requires.space c.index-as_slice-space.is) c.next_row.ensures

pub fill_turns-requires-clause-after : goal.fill_turns-requires-clause-after
fill_turns-requires-clause-after g c =
    c.next_row.ensures ∙ ap (λ n. row_after n c.args.row) (rows-at c.args.pil.now.spaces c.as_slice.result.now c.args.space c.index-as_slice-space.result (g.C.Columns.values c.args.columns.now) c.as_slice.ensures c.requires.fits c.requires.space c.index-as_slice-space.is)

pub fill_turns-requires-clause-plan : goal.fill_turns-requires-clause-plan
fill_turns-requires-clause-plan g c =
    plan-at (namespaces c.args.pil.now) c.args.self.now.plans c.as_slice-2.result.now c.args.space c.index-as_slice-space-2.result c.as_slice-turns.result.now c.requires.made.plans (subst (λ n. c.args.space < n) c.requires.fits.spaces c.requires.space) c.as_slice-2.ensures (c.as_slice-turns.ensures ∙ c.index-as_slice-space-2.is)
