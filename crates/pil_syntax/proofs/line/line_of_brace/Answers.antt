use Rattle.pil_syntax.specs.State.{opening}
use Rattle.pil_syntax.proofs.line.line_of_brace.Goals as goal

pub returns-clause-ends : goal.returns-clause-ends
returns-clause-ends c = λ d. rw (c.in_ok-list.ensures.leads d opening) (c.line_of_lists.ensures.ends d)
