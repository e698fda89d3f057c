use Rattle.pil_ast.specs.Tree.{tuples}
use Rattle.pil_print.specs.Tables.{text_names}
use Rattle.pil_print.specs.Levels.{IsPrintableList}
use Rattle.pil_print.proofs.Starts.{all-mapped}
use Rattle.pil_print.proofs.items.write_bus.Goals as goal

pub write_lists-requires-clause-printable : goal.write_lists-requires-clause-printable
write_lists-requires-clause-printable c = all-mapped (IsPrintableList (text_names c.args.names.now)) tuples c.args.left.now c.requires.left

pub write_lists-requires-2-clause-printable : goal.write_lists-requires-2-clause-printable
write_lists-requires-2-clause-printable c = all-mapped (IsPrintableList (text_names c.args.names.now)) tuples c.args.right.now c.requires.right
