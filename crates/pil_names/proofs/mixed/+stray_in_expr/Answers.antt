use Rattle.std.proofs.Common.{ap, ◌∙◌}
use Rattle.pil_syntax.specs.Shown.{term}
use Rattle.std.specs.List.{flat_map}
use Rattle.pil_names.specs.Wrongs.{references, stray}
use Rattle.pil_names.specs.Least.{least}
use Rattle.pil_names.specs.Shown.{outlined}
use Rattle.pil_names.proofs.Terms.{term_add, term_sub, term_mul}
use Rattle.pil_names.proofs.Passing.{least_joined}
use Rattle.pil_names.proofs.mixed.+stray_in_expr.Goals as goal

pub returns-in-Add : goal.returns-in-Add
returns-in-Add t c =
    let f = stray (outlined c.args.outline.now) c.args.home c.args.wanted in
    least_joined f (references (term c.args.expr.now)) (references (term c.in-Add.a)) (references (term c.in-Add.b)) c.stray_in_expr-left.result c.stray_in_expr-right.result c.lesser.result
    (ap references (term_add c.args.expr.now c.in-Add.a c.in-Add.b c.in-Add.is))
    (c.stray_in_expr-left.ensures ∙ ap (λ e. least (flat_map f (references (term e)))) c.get-in-Add.ensures)
    (c.stray_in_expr-right.ensures ∙ ap (λ e. least (flat_map f (references (term e)))) c.get-in-Add-2.ensures)
    c.lesser.ensures

pub returns-in-Sub : goal.returns-in-Sub
returns-in-Sub t c =
    let f = stray (outlined c.args.outline.now) c.args.home c.args.wanted in
    least_joined f (references (term c.args.expr.now)) (references (term c.in-Sub.a)) (references (term c.in-Sub.b)) c.stray_in_expr-left-in-Sub.result c.stray_in_expr-right-in-Sub.result c.lesser-in-Sub.result
    (ap references (term_sub c.args.expr.now c.in-Sub.a c.in-Sub.b c.in-Sub.is))
    (c.stray_in_expr-left-in-Sub.ensures ∙ ap (λ e. least (flat_map f (references (term e)))) c.get-in-Sub.ensures)
    (c.stray_in_expr-right-in-Sub.ensures ∙ ap (λ e. least (flat_map f (references (term e)))) c.get-in-Sub-2.ensures)
    c.lesser-in-Sub.ensures

pub returns-in-Mul : goal.returns-in-Mul
returns-in-Mul t c =
    let f = stray (outlined c.args.outline.now) c.args.home c.args.wanted in
    least_joined f (references (term c.args.expr.now)) (references (term c.in-Mul.a)) (references (term c.in-Mul.b)) c.stray_in_expr-left-in-Mul.result c.stray_in_expr-right-in-Mul.result c.lesser-in-Mul.result
    (ap references (term_mul c.args.expr.now c.in-Mul.a c.in-Mul.b c.in-Mul.is))
    (c.stray_in_expr-left-in-Mul.ensures ∙ ap (λ e. least (flat_map f (references (term e)))) c.get-in-Mul.ensures)
    (c.stray_in_expr-right-in-Mul.ensures ∙ ap (λ e. least (flat_map f (references (term e)))) c.get-in-Mul-2.ensures)
    c.lesser-in-Mul.ensures
