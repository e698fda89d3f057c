use Rattle.std.proofs.Common.{◌≡◌, take}
use Rattle.std.specs.List.{flat_map}
use Rattle.pil_syntax.specs.Shown.{term}
use Rattle.pil_names.specs.Wrongs.{stray, references}
use Rattle.pil_names.specs.Shown.{outlined}
use Rattle.pil_names.specs.Least.{least}
use Rattle.pil_names.proofs.mixed.stray_in_exprs.Given as goal

abbrev pub invariant-loop-expr : goal.invariant-loop-expr
invariant-loop-expr l = l.found ≡ least (flat_map (λ x. flat_map (stray (outlined l.outline) l.home l.wanted) (references (term x))) (take l.expr-index l.exprs))
