use Rattle.std.proofs.Common.{sym, ap, ◌∙◌}
use Rattle.std.proofs.lemmas.List.{take_all}
use Rattle.std.proofs.lemmas.List.Folds.{flat_map-map}
use Rattle.std.specs.List.{flat_map}
use Rattle.pil_syntax.specs.Shown.{term}
use Rattle.pil_names.specs.Wrongs.{references, first_home}
use Rattle.pil_names.specs.Shown.{outlined}
use Rattle.pil_names.proofs.mixed.first_home_of_exprs.Goals as goal

pub returns : goal.returns
returns c =
    let first = first_home (outlined c.args.outline.now) c.args.home in
    let all = take_all c.loop-expr.expr-index c.args.exprs.now c.loop-expr-test.false in
    c.loop-expr.invariant ∙ ap (λ s. first (flat_map (λ x. references (term x)) s)) all ∙ ap first (sym (flat_map-map references term c.args.exprs.now))
