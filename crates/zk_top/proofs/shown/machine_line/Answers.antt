use Rattle.std.proofs.Common.{ℕ, List, Option, Some, None, IfSome, subst}
use Rattle.gold.specs.declared.shapes.Profile.TheVariants.{Small}
use Rattle.pil_ast.specs.Term.{Namespace}
use Rattle.machine_text.specs.Machine.{machine}
use Rattle.broken_line.specs.declared.finding.LineText.{LineText}
use Rattle.broken_line.specs.Texts.{IsText, IsFound}
use Rattle.zk_top.proofs.shown.machine_line.Goals as goal

-- what is found is a text
text_of : (ns : List Namespace) (number : ℕ) (found : Option LineText) → IsFound ns number found → IfSome found (IsText ns number)
text_of ns number None h = tt
text_of ns number (Some text) h = h

pub returns-in-Ok-line_text : goal.returns-in-Ok-line_text
returns-in-Ok-line_text c =
    text_of (machine Small) c.args.number c.in-Ok-line_text.found (subst (λ (ns : List Namespace). IsFound ns c.args.number c.in-Ok-line_text.found) c.in-Ok.ensures.made c.in-Ok-line_text.ensures)
