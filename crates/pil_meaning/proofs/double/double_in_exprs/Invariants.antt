use Rattle.std.proofs.Common.{◌≡◌, take}
use Rattle.std.specs.List.{flat_map}
use Rattle.pil_syntax.specs.Shown.{term}
use Rattle.pil_meaning.specs.Marks.{double_in_term}
use Rattle.pil_names.specs.Shown.{outlined}
use Rattle.pil_names.specs.Least.{least}
use Rattle.pil_meaning.proofs.double.double_in_exprs.Given as goal

abbrev pub invariant-loop-expr : goal.invariant-loop-expr
invariant-loop-expr l = l.found ≡ least (flat_map (λ x. double_in_term (outlined l.outline) l.home (term x)) (take l.expr-index l.exprs))
