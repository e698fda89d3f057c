use Rattle.std.proofs.Common.{◌≡◌, ◌-◌, ◌+◌, List, ◌∙◌, subst, MatchOption}
use Rattle.std.specs.Result.{IfOk}
use Rattle.pil_ast.specs.Holds.{AsOften}
use Rattle.bus_check.specs.Bus.{DiffersBy}
use Rattle.instance_pass.specs.declared.parts.Part.{Part}
use Rattle.pil_checker.specs.Standing.{side_of}
use Rattle.pil_checker.proofs.Elements.{ok-always}
use Rattle.pil_checker.proofs.Given.{given-both, side-rest}
use Rattle.pil_checker.proofs.differences.compare.Goals as goal

pub returns-clause-found : goal.returns-clause-found
returns-clause-found c =
    let x = c.args.span.now in
    let old : List Part = c.args.parts.now.items in
    let part : List Part = c.side.new.parts.items in
    let right : c.in_ok-right.right ≡ side_of old x.middle (x.end - x.middle) = c.in_ok-right.ensures.tuples ∙ side-rest x.middle (x.end - x.middle) old part c.in_ok-left.ensures.gives in
    subst (λ xs. IfOk c.first_difference.result (λ found. MatchOption found (AsOften xs (side_of old x.middle (x.end - x.middle))) (λ b. DiffersBy (c.args.line + 1) xs (side_of old x.middle (x.end - x.middle)) b))) c.in_ok-left.ensures.tuples
    (subst (λ ys. IfOk c.first_difference.result (λ found. MatchOption found (AsOften c.in_ok-left.left ys) (λ b. DiffersBy (c.args.line + 1) c.in_ok-left.left ys b))) right c.first_difference.ensures)

pub returns-clause-gives : goal.returns-clause-gives
returns-clause-gives c =
    let x = c.args.span.now in
    ok-always c.first_difference.result _ (given-both x.middle x.end c.args.parts.now.items c.side.new.parts.items c.side-2.new.parts.items c.requires.middle c.in_ok-left.ensures.gives c.in_ok-right.ensures.gives)
