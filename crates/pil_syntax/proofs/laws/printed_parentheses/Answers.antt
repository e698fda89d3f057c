use Rattle.pil_syntax.proofs.Printed.{dressing}
use Rattle.pil_syntax.proofs.laws.printed_parentheses.Goals as goal

pub returns : goal.returns
returns c = record { dressing = dressing }
