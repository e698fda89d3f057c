use Rattle.std.proofs.Common.{refl}
use Rattle.pil_syntax.specs.State.{leftmost}
use Rattle.pil_syntax.proofs.line.line.Goals as goal

pub returns-clause-ends : goal.returns-clause-ends
returns-clause-ends c = λ d. rw (c.in_ok-left.ensures.leads d leftmost refl) (c.line_of.ensures.ends d c.in_ok-left.field-0-1)
