use Rattle.std.proofs.Common.{ap, ◌∙◌}
use Rattle.pil_syntax.specs.Shown.{term}
use Rattle.pil_meaning.specs.Marks.{double_in_term}
use Rattle.pil_names.specs.Least.{least}
use Rattle.pil_names.specs.Shown.{outlined}
use Rattle.pil_meaning.proofs.Sums.{term_add, term_sub, term_mul}
use Rattle.pil_meaning.proofs.Passing.{least_both}
use Rattle.pil_meaning.proofs.double.+double_in_expr.Goals as goal

pub returns-in-Add : goal.returns-in-Add
returns-in-Add t c =
    let f = double_in_term (outlined c.args.outline.now) c.args.home in
    least_both (f (term c.args.expr.now)) (f (term c.in-Add.a)) (f (term c.in-Add.b)) c.double_in_expr-left.result c.double_in_expr-right.result c.lesser.result
    (ap f (term_add c.args.expr.now c.in-Add.a c.in-Add.b c.in-Add.is))
    (c.double_in_expr-left.ensures ∙ ap (λ e. least (f (term e))) c.get-in-Add.ensures)
    (c.double_in_expr-right.ensures ∙ ap (λ e. least (f (term e))) c.get-in-Add-2.ensures)
    c.lesser.ensures

pub returns-in-Sub : goal.returns-in-Sub
returns-in-Sub t c =
    let f = double_in_term (outlined c.args.outline.now) c.args.home in
    least_both (f (term c.args.expr.now)) (f (term c.in-Sub.a)) (f (term c.in-Sub.b)) c.double_in_expr-left-in-Sub.result c.double_in_expr-right-in-Sub.result c.lesser-in-Sub.result
    (ap f (term_sub c.args.expr.now c.in-Sub.a c.in-Sub.b c.in-Sub.is))
    (c.double_in_expr-left-in-Sub.ensures ∙ ap (λ e. least (f (term e))) c.get-in-Sub.ensures)
    (c.double_in_expr-right-in-Sub.ensures ∙ ap (λ e. least (f (term e))) c.get-in-Sub-2.ensures)
    c.lesser-in-Sub.ensures

pub returns-in-Mul : goal.returns-in-Mul
returns-in-Mul t c =
    let f = double_in_term (outlined c.args.outline.now) c.args.home in
    least_both (f (term c.args.expr.now)) (f (term c.in-Mul.a)) (f (term c.in-Mul.b)) c.double_in_expr-left-in-Mul.result c.double_in_expr-right-in-Mul.result c.lesser-in-Mul.result
    (ap f (term_mul c.args.expr.now c.in-Mul.a c.in-Mul.b c.in-Mul.is))
    (c.double_in_expr-left-in-Mul.ensures ∙ ap (λ e. least (f (term e))) c.get-in-Mul.ensures)
    (c.double_in_expr-right-in-Mul.ensures ∙ ap (λ e. least (f (term e))) c.get-in-Mul-2.ensures)
    c.lesser-in-Mul.ensures
