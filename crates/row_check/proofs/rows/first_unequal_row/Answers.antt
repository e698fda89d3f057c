use Rattle.std.proofs.Common.{◌<◌, length, inl, inr, refl, sym, ◌∙◌, subst, arith}
use Rattle.std.proofs.lemmas.Bool.{cases_eq}
use Rattle.pil_ast.specs.Tree.{namespaces, term}
use Rattle.pil_ast.specs.Holds.{EqualAt}
use Rattle.row_check.proofs.rows.first_unequal_row.Goals as goal

pub equal_at-requires-clause-row : goal.equal_at-requires-clause-row
equal_at-requires-clause-row g c =
    let inside : c.args.space < length (namespaces c.args.pil.now) = subst (λ n. c.args.space < n) c.requires.fits.spaces c.requires.space in
    subst (λ n. c.loop-row.row < n) (c.rows-row-end.ensures ∙ sym (c.requires.fits.rows c.args.space inside)) c.loop-row-test.true

pub loop-row-preserved : goal.loop-row-preserved
loop-row-preserved g c = (
  c.if-not-equal_at.ensures.made,
  λ q l. elim (cases_eq q c.loop-row.row) [
    | inl e ↦ subst (EqualAt (namespaces c.args.pil.now) (g.C.Columns.values c.args.columns.now) c.args.space (term c.args.left.now) (term c.args.right.now) c.args.instance) (sym e) (c.if-not-equal_at.ensures.equal.0 refl)
    | inr ne ↦ c.loop-row.invariant.1 q (omega arith)
  ],
)

pub returns-clause-first : goal.returns-clause-first
returns-clause-first g c =
    let inside : c.args.space < length (namespaces c.args.pil.now) = subst (λ n. c.args.space < n) c.requires.fits.spaces c.requires.space in
    λ r l. c.loop-row.invariant.1 r
    (let l' : r < c.rows-row-end.result = subst (λ n. r < n) (c.requires.fits.rows c.args.space inside ∙ sym c.rows-row-end.ensures) l in
    let past = c.loop-row-test.false in
    omega arith)
