use Rattle.std.proofs.Common.{refl, ◌∙◌, rules}
use Rattle.pil_syntax.specs.Grammar.{limits}
use Rattle.pil_syntax.specs.Shown.{term}
use Rattle.pil_syntax.specs.Tree.{identity}
use Rattle.pil_syntax.specs.State.{right}
use Rattle.pil_syntax.proofs.Stepping.{identity_waits}
use Rattle.pil_syntax.proofs.line.identity.Goals as goal

pub returns-clause-ends : goal.returns-clause-ends
returns-clause-ends c = λ d.
    c.in_ok-right.ensures.leads d (right (term c.args.left)) refl
    ∙ (identity_waits limits d (term c.args.left) (term c.in_ok-right.right) c.in_ok-right.field-0-1 c.in_ok-right.rest.now c.in_ok-right.ensures.ends
    ∙ c.in_ok-rest.ensures.ends d (identity (term c.args.left) (term c.in_ok-right.right)))

pub returns-in_err-rest-clause-ends : goal.returns-in_err-rest-clause-ends
returns-in_err-rest-clause-ends c = λ d.
    rw (c.in_ok-right.ensures.leads d (right (term c.args.left)) refl
    ∙ identity_waits limits d (term c.args.left) (term c.in_ok-right.right) c.in_ok-right.field-0-1 c.in_ok-right.rest.now c.in_ok-right.ensures.ends)
    (let h = c.in_err-rest.ensures.ends d (identity (term c.args.left) (term c.in_ok-right.right)) in search rules)
