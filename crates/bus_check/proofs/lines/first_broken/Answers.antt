use Rattle.std.proofs.Common.{◌+◌, ◌-◌, ◌≡◌, slice_get, ◌∙◌, ap, arith}
use Rattle.pil_ast.specs.Tree.{namespaces}
use Rattle.pil_ast.specs.Holds.{lines}
use Rattle.pil_laws.proofs.Lines.{holds-within}
use Rattle.bus_check.proofs.lines.first_broken.Goals as goal

pub line_at-item-requires-clause-inside : goal.line_at-item-requires-clause-inside
line_at-item-requires-clause-inside g c =
    let l = c.loop-before-test.true in
    let end = c.lines-before-end.ensures in
    let long = c.in_ok-places.ensures.long in
    omega arith

pub check_line-requires-clause-there : goal.check_line-requires-clause-there
check_line-requires-clause-there g c =
    let here : c.loop-before.before + 1 - 1 ≡ c.loop-before.before = omega arith in
    ap (slice_get (lines (namespaces c.args.pil.now))) here ∙ c.line_at-item.ensures

pub returns : goal.returns
returns g c =
    holds-within (namespaces c.args.pil.now) (g.C.Columns.values c.args.columns.now) (lines (namespaces c.args.pil.now)) (λ k l.
    let past = c.loop-before-test.false in
    let end = c.lines-before-end.ensures in
    c.loop-before.invariant.1 k (omega arith))
