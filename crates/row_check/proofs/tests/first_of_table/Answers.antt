use Rattle.std.proofs.Common.{sym, subst}
use Rattle.pil_ast.specs.Sound.{IsSound}
use Rattle.row_check.proofs.Readable.{sound}
use Rattle.row_check.proofs.tests.first_of_table.Goals as goal

pub check_table-requires-clause-sound : goal.check_table-requires-clause-sound
check_table-requires-clause-sound c = subst IsSound (sym c.in_ok-pil.ensures) sound
