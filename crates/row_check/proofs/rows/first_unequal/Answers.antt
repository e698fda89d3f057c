use Rattle.std.proofs.Common.{◌<◌, inl, inr, sym, subst, arith}
use Rattle.std.proofs.lemmas.Bool.{cases_eq}
use Rattle.pil_ast.specs.Tree.{namespaces, term}
use Rattle.row_check.specs.Breaks.{IsEqual}
use Rattle.row_check.proofs.rows.first_unequal.Goals as goal

pub loop-instance-preserved : goal.loop-instance-preserved
loop-instance-preserved g c = (
  c.first_unequal_row.ensures.made,
  λ i l. elim (cases_eq i c.loop-instance.instance) [
    | inl e ↦ subst (IsEqual (namespaces c.args.pil.now) (g.C.Columns.values c.args.columns.now) c.args.space (term c.args.left.now) (term c.args.right.now)) (sym e) c.in-None.ensures.first
    | inr ne ↦ c.loop-instance.invariant.1 i (omega arith)
  ],
)

pub returns-clause-first : goal.returns-clause-first
returns-clause-first g c =
    λ i r l l'. c.loop-instance.invariant.1 i
    (let l'' : i < c.instances-instance-end.result = subst (λ n. i < n) (sym c.instances-instance-end.ensures) l in
    let past = c.loop-instance-test.false in
    omega arith) r l'
