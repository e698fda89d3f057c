use Rattle.std.proofs.Common.{All, subst, sym}
use Rattle.pil_ast.specs.Tree.{term}
use Rattle.pil_print.specs.Tables.{text_names}
use Rattle.pil_print.specs.Levels.{IsPrintable}
use Rattle.pil_print.proofs.Starts.{all-mapped}
use Rattle.pil_print.proofs.lists.write_list.Goals as goal

pub write_exprs-requires-clause-printable : goal.write_exprs-requires-clause-printable
write_exprs-requires-clause-printable c =
    subst (All (λ e. IsPrintable (text_names c.args.names.now) (term e))) (sym c.as_slice.ensures) (all-mapped (IsPrintable (text_names c.args.names.now)) term c.args.list.now.exprs c.requires.printable.terms)
