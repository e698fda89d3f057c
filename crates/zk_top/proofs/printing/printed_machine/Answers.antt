use Rattle.std.proofs.Common.{sym, ap, ◌∙◌, List}
use Rattle.pil_ast.specs.Term.{Namespace}
use Rattle.pil_print.specs.Printed.{printed}
use Rattle.zk_words.specs.declared.status.Status.TheVariants.{Done}
use Rattle.zk_top.specs.Outcome.{reporting}
use Rattle.zk_top.proofs.printing.printed_machine.Goals as goal

pub returns-in-Ok-print-clause-comes : goal.returns-in-Ok-print-clause-comes
returns-in-Ok-print-clause-comes c = λ names o on.
    on ∙ ap (λ (ns : List Namespace). reporting names Done (printed ns)) (sym c.in-Ok.ensures.made) ∙ ap (reporting names Done) (sym c.in-Ok-print.ensures)
