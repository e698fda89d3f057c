use Rattle.pil_syntax.specs.Shown.{term}
use Rattle.pil_syntax.specs.Tree.{by_group}
use Rattle.pil_syntax.proofs.line.list_of_group.Goals as goal

pub returns-clause-leads : goal.returns-clause-leads
returns-clause-leads c = λ d j. rw (c.in_ok-value.ensures.leads d j) (rw (c.in_ok-at.ensures.leads d j (by_group (term c.in_ok-value.value))) (c.list_of_brace.ensures.leads d j))
