use Rattle.pil_syntax.specs.Tree.{by_col}
use Rattle.pil_syntax.specs.State.{in_filter}
use Rattle.pil_syntax.proofs.line.list_of_column.Goals as goal

pub returns-clause-leads : goal.returns-clause-leads
returns-clause-leads c = λ d j. rw (c.in_ok-column.ensures.leads d (in_filter j)) (rw (c.in_ok-at.ensures.leads d j (by_col c.in_ok-column.column)) (c.list_of_brace.ensures.leads d j))
