use Rattle.std.proofs.Common.{◌≡◌, take}
use Rattle.std.specs.List.{flat_map}
use Rattle.pil_syntax.specs.Shown.{term}
use Rattle.pil_names.specs.Wrongs.{references, first_home}
use Rattle.pil_names.specs.Shown.{outlined}
use Rattle.pil_names.proofs.mixed.first_home_of_exprs.Given as goal

abbrev pub invariant-loop-expr : goal.invariant-loop-expr
invariant-loop-expr l = l.found ≡ first_home (outlined l.outline) l.home (flat_map (λ x. references (term x)) (take l.expr-index l.exprs))
